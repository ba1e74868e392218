use Rattle.std.proofs.Common.{◌≡◌}
use Rattle.rcu_live.specs.CpuSeat.{after_word_step}
use Rattle.rcu_graph.specs.Graph.{IsWalking}
use Rattle.rcu_graph_tests.proofs.map.next.take_each.Given as goal

abbrev pub invariant-loop-taken : goal.invariant-loop-taken
invariant-loop-taken l = record {
  state : l.seat ≡ after_word_step l.initial.seat l.seat.view.client;
  walking : IsWalking l.map l.seat;
}
