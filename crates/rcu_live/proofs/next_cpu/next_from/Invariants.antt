use Rattle.std.proofs.Common.{◌≡◌, ◌<◌, ◌≤◌, ◌-◌, ℕ, false}
use Rattle.rcu_node.specs.CpuSet.{is_in}
use Rattle.rcu_live.proofs.next_cpu.next_from.Given as goal

abbrev pub invariant-loop-cpu : goal.invariant-loop-cpu
invariant-loop-cpu l = (l.from ≤ l.cpu) × ((c : ℕ) → l.from ≤ c → c < l.cpu → is_in l.set c ≡ false)

abbrev pub decreases-loop-cpu : goal.decreases-loop-cpu
decreases-loop-cpu l = l.end - l.cpu
