use Rattle.std.proofs.Common.{◌≡◌, ◌≤◌, ◌+◌, ◌*◌, cond}
use Rattle.std.specs.Prelude.{sum_by}
use Rattle.std.specs.List.{range_with_len}
use Rattle.rcu_core.specs.Core.{says}
use Rattle.rcu_core.specs.WayOut.{retiring_steps_of}
use Rattle.rcu_core.proofs.way_out.Core+A+u64.steps_left.Given as goal

-- the end and the steps of those so far, which are not too many
abbrev pub invariant-loop-cpu : goal.invariant-loop-cpu
invariant-loop-cpu g l = record {
  few : l.left ≤ 1 + 65537 * l.cpu;
  so_far : l.left
      ≡ 1
      + sum_by (λ c. cond ((says l.fn.self).cpus.awaits c) (retiring_steps_of (says l.fn.self) c) 0)
      (range_with_len 0 l.cpu);
}
