use Rattle.std.proofs.Common.{◌≡◌}
use Rattle.rcu_node.proofs.Merges.{IsCutBelow}
use Rattle.rcu_node.proofs.merging.merge.Given as goal

-- so far the processors below the counter that the other no longer awaits are removed
abbrev pub invariant-loop-cpu : goal.invariant-loop-cpu
invariant-loop-cpu g l = record {
  tag : g.A.Awaited.tag l.to ≡ g.A.Awaited.tag l.initial.to;
  start_set : g.A.Awaited.start_set l.to ≡ g.A.Awaited.start_set l.initial.to;
  cut : IsCutBelow l.cpu (g.A.Awaited.awaited l.initial.to) (g.B.Awaited.awaited l.from)
      (g.A.Awaited.awaited l.to);
}
