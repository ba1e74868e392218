use Rattle.std.proofs.Common.{◌-◌}
use Rattle.rcu_geometry.specs.Geometry.{shape}
use Rattle.rcu_geometry.proofs.Levels.{AreStarts}
use Rattle.rcu_geometry.proofs.geometry.level_starts.Given as goal

-- the starts of the levels above this height
abbrev pub invariant-loop-height : goal.invariant-loop-height
invariant-loop-height l =
    AreStarts (shape l.leaf l.fan l.cpus) l.starts.items l.next (l.levels - l.height)
