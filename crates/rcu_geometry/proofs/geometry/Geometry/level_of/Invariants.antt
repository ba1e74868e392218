use Rattle.std.proofs.Common.{◌-◌, ◌≤◌}
use Rattle.rcu_geometry.specs.Geometry.{level_start}
use Rattle.rcu_geometry.proofs.geometry.Geometry.level_of.Given as goal

-- the node is in no level before
abbrev pub invariant-loop-i : goal.invariant-loop-i
invariant-loop-i g l = level_start l.self (l.i - 1) ≤ l.node
