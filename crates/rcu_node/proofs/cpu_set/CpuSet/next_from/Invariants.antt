use Rattle.std.proofs.Common.{◌≡◌, ◌<◌, ◌≤◌, ◌-◌, ℕ, false}
use Rattle.rcu_node.specs.CpuSet.{is_in}
use Rattle.rcu_node.proofs.cpu_set.CpuSet.next_from.Given as goal

-- no processor of the set was skipped
abbrev pub invariant-loop-cpu : goal.invariant-loop-cpu
invariant-loop-cpu l = (l.from ≤ l.cpu)
    × ((c : ℕ) → l.from ≤ c → c < l.cpu → is_in l.self c ≡ false)

abbrev pub decreases-loop-cpu : goal.decreases-loop-cpu
decreases-loop-cpu l = l.self-inside.cpus - l.cpu
