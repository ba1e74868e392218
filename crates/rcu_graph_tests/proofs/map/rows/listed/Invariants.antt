use Rattle.std.proofs.Common.{◌≡◌, length}
use Rattle.rcu_live.specs.CpuSeat.{after_word_step}
use Rattle.rcu_graph.specs.Graph.{IsWalking}
use Rattle.rcu_graph_tests.proofs.map.rows.listed.Given as goal

abbrev pub invariant-loop-count : goal.invariant-loop-count
invariant-loop-count l = record {
  state : l.seat ≡ after_word_step l.initial.seat l.seat.view.client;
  walking : IsWalking l.map l.seat;
  row : length l.row ≡ l.map.plan.words;
  room : length l.room ≡ l.map.plan.words;
}
