use Rattle.std.proofs.Common.{◌-◌, ◌<◌, ◌≤◌}
use Rattle.rcu_geometry.specs.Geometry.{shape, capacity}
use Rattle.rcu_geometry.proofs.geometry.least_levels.Given as goal

-- one level less does not hold all processors
abbrev pub invariant-loop-levels : goal.invariant-loop-levels
invariant-loop-levels l = record {
  some : 1 ≤ l.levels;
  few : l.levels ≤ 4;
  least : 1 < l.levels → capacity (shape l.leaf l.fan l.cpus) (l.levels - 2) < l.cpus;
}

abbrev pub decreases-loop-levels : goal.decreases-loop-levels
decreases-loop-levels l = 4 - l.levels
