use Rattle.std.proofs.Common.{◌≡◌, ◌<◌, ℕ}
use Rattle.rcu_node.specs.CpuSet.{is_in}
use Rattle.rcu_node.proofs.merging.started_alike.Given as goal

-- so far the start sets agree
abbrev pub invariant-loop-cpu : goal.invariant-loop-cpu
invariant-loop-cpu g l =
    (cpu : ℕ) → cpu < l.cpu
    → is_in (g.A.Awaited.start_set l.first) cpu ≡ is_in (g.B.Awaited.start_set l.second) cpu
