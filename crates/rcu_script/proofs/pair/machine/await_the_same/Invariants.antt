use Rattle.std.proofs.Common.{◌≡◌, ◌<◌, ℕ}
use Rattle.rcu_node.specs.CpuSet.{is_in}
use Rattle.rcu_script.proofs.pair.machine.await_the_same.Given as goal

-- so far both await the same
abbrev pub invariant-loop-cpu : goal.invariant-loop-cpu
invariant-loop-cpu g l = (cpu : ℕ) → cpu < l.cpu
    → is_in (g.A.Awaited.awaited l.first) cpu ≡ is_in (g.B.Awaited.awaited l.second) cpu
