use Rattle.std.proofs.Common.{◌≡◌, ◌-◌, ◌≤◌, subst, ap, ◌∙◌, arith}
use Rattle.rcu_geometry.specs.Geometry.{IsLegalShape, levels, level_start}
use Rattle.rcu_geometry.proofs.Capacities.{levels_range}
use Rattle.rcu_geometry.proofs.Levels.{start_zero, level_by}
use Rattle.rcu_geometry.proofs.Places.{level_some_of}
use Rattle.rcu_geometry.proofs.geometry.Geometry.level_of.Goals as goal

pub loop-i-init : goal.loop-i-init
loop-i-init g c = let first = start_zero c.args.self.now in omega arith

pub returns-then-node-start-clause-value : goal.returns-then-node-start-clause-value
returns-then-node-start-clause-value g c =
    let leveled = c.self.invariant.leveled ∙ ap levels c.self.view_is in
    let range = levels_range c.args.self.now in
    let end = c.loop-i-test.true in let from = c.loop-i.auto.i in let last = c.loop-i.auto.i-end in
    let start = c.start.ensures.value in let before = c.if-node-start.true in
    level_by c.args.self.now c.args.node (c.loop-i.i - 1) c.loop-i.i (omega arith) (omega arith)
    c.loop-i.invariant (omega arith)

pub overflow_sub-result-2 : goal.overflow_sub-result-2
overflow_sub-result-2 g c =
    let leveled = c.self.invariant.leveled ∙ ap levels c.self.view_is in
    omega (arith, leveled, levels_range c.args.self.now)

pub returns-clause-range : goal.returns-clause-range
returns-clause-range g c =
    let leveled = c.self.invariant.leveled ∙ ap levels c.self.view_is in
    omega (arith, leveled, levels_range c.args.self.now)

pub returns-clause-start : goal.returns-clause-start
returns-clause-start g c =
    let leveled = c.self.invariant.leveled ∙ ap levels c.self.view_is in
    let range = levels_range c.args.self.now in
    let end = c.loop-i-test.false in
    let last : c.loop-i.i ≡ c.self.inside.levels = omega arith in
    subst (λ i. level_start c.args.self.now (i - 1) ≤ c.args.node) last c.loop-i.invariant

pub returns-clause-value : goal.returns-clause-value
returns-clause-value g c =
    let leveled = c.self.invariant.leveled ∙ ap levels c.self.view_is in
    let range = levels_range c.args.self.now in
    level_by c.args.self.now c.args.node (c.self.inside.levels - 1) (levels c.args.self.now)
    (omega arith) (omega arith) (returns-clause-start g c) c.requires

pub returns-then-node-start-clause-below_root : goal.returns-then-node-start-clause-below_root
returns-then-node-start-clause-below_root g c = λ other.
    let legal = subst (λ s. IsLegalShape s) c.self.view_is c.self.invariant.legal in
    let some = level_some_of c.args.self.now c.args.node legal other c.requires in
    omega (arith, some, returns-then-node-start-clause-value g c)

pub returns-clause-below_root : goal.returns-clause-below_root
returns-clause-below_root g c = λ other.
    let legal = subst (λ s. IsLegalShape s) c.self.view_is c.self.invariant.legal in
    let some = level_some_of c.args.self.now c.args.node legal other c.requires in
    omega (arith, some, returns-clause-value g c)
