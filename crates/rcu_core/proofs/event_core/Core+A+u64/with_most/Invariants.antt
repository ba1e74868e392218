use Rattle.std.proofs.Common.{◌≡◌}
use Rattle.rcu_core.proofs.Sound.{first_cpus}
use Rattle.rcu_core.proofs.event_core.Core+A+u64.with_most.Given as goal

-- those so far
abbrev pub invariant-loop-cpu : goal.invariant-loop-cpu
invariant-loop-cpu g l = l.cpus.items ≡ first_cpus l.cpu
