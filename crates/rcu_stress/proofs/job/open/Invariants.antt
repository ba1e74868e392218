use Rattle.std.proofs.Common.{◌≡◌, ◌+◌}
use Rattle.rcu_stress.proofs.job.open.Given as goal

abbrev pub invariant-loop : goal.invariant-loop
invariant-loop g l = record {
  table : l.seat.table ≡ (g.E.Shared.object l.live).table;
  cpu : l.seat.cpu ≡ l.initial.seat.cpu;
  stores : l.seat.view.stores ≡ l.initial.seat.view.stores;
  depth : l.seat.depth ≡ l.initial.seat.depth + l.counter;
}
