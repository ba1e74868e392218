use Rattle.std.proofs.Common.{◌≡◌}
use Rattle.rcu_stress.proofs.job.close.Given as goal

abbrev pub invariant-exits : goal.invariant-exits
invariant-exits g l = record {
  table : l.seat.table ≡ (g.E.Shared.object l.live).table;
  cpu : l.seat.cpu ≡ l.initial.seat.cpu;
  stores : l.seat.view.stores ≡ l.initial.seat.view.stores;
}

abbrev pub decreases-exits : goal.decreases-exits
decreases-exits g l = l.seat.depth
