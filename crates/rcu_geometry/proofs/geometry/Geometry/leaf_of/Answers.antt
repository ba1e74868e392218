use Rattle.std.proofs.Common.{◌-◌, ap, ◌∙◌, arith, rules}
use Rattle.rcu_geometry.specs.Geometry.{levels, leaf_of}
use Rattle.rcu_geometry.proofs.Capacities.{levels_range}
use Rattle.rcu_geometry.proofs.Places.{lies_below, leaf_lies}
use Rattle.rcu_geometry.proofs.geometry.Geometry.leaf_of.Goals as goal

pub overflow_sub-self-inside : goal.overflow_sub-self-inside
overflow_sub-self-inside g c =
    let leveled = c.self.invariant.leveled ∙ ap levels c.self.view_is in
    omega (arith, leveled, levels_range c.args.self.now)

pub returns-clause-value : goal.returns-clause-value
returns-clause-value g c = search rules

pub returns-clause-here : goal.returns-clause-here
returns-clause-here g c =
    let s = c.args.self.now in
    rw (returns-clause-value g c)
    (lies_below s (leaf_of s c.args.cpu) (levels s - 1) _
    (leaf_lies s c.args.cpu c.start.ensures.shape c.requires))
