use Rattle.std.proofs.Common.{◌≡◌, ◌<◌, ℕ, false}
use Rattle.rcu_node.specs.CpuSet.{is_in}
use Rattle.rcu_core.proofs.way_out.first_awaited.Given as goal

-- none of those so far is awaited
abbrev pub invariant-loop-cpu : goal.invariant-loop-cpu
invariant-loop-cpu g l = (c : ℕ) → c < l.cpu → is_in (g.A.Awaited.awaited l.awaited) c ≡ false
