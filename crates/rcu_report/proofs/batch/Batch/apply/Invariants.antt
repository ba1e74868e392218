use Rattle.std.proofs.Common.{◌≡◌, ◌+◌, length}
use Rattle.rcu_node.specs.CpuSet.{size_of}
use Rattle.rcu_report.proofs.Batches.{IsClearedBelow}
use Rattle.rcu_report.proofs.batch.Batch.apply.Given as goal

-- so far the processors below the counter are cleared, and counted
abbrev pub invariant-loop-cpu : goal.invariant-loop-cpu
invariant-loop-cpu g l = record {
  tag : g.A.Awaited.tag l.to ≡ g.A.Awaited.tag l.initial.to;
  start_set : g.A.Awaited.start_set l.to ≡ g.A.Awaited.start_set l.initial.to;
  sized : length (g.A.Awaited.awaited l.to) ≡ length (g.A.Awaited.awaited l.initial.to);
  cleared : IsClearedBelow l.cpu l.self (g.A.Awaited.tag l.initial.to)
      (g.A.Awaited.awaited l.initial.to)
      (g.A.Awaited.awaited l.to);
  counted : l.cleared + size_of (g.A.Awaited.awaited l.to)
      ≡ size_of (g.A.Awaited.awaited l.initial.to);
}
