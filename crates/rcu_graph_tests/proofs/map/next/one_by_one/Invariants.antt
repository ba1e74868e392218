use Rattle.std.proofs.Common.{◌≡◌}
use Rattle.rcu_live.specs.CpuSeat.{after_word_step}
use Rattle.rcu_graph.specs.Graph.{IsWalking}
use Rattle.rcu_graph_tests.proofs.map.next.one_by_one.Given as goal

abbrev pub invariant-loop-route : goal.invariant-loop-route
invariant-loop-route l = record {
  state : l.seat ≡ after_word_step l.initial.seat l.seat.view.client;
  walking : IsWalking l.map l.seat;
}
