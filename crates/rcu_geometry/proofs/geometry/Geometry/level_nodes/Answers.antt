use Rattle.std.proofs.Common.{◌≡◌, ◌-◌, arith, ◌∙◌}
use Rattle.rcu_geometry.specs.Geometry.{level_nodes}
use Rattle.rcu_geometry.proofs.Levels.{start_next, level_within, leaves_by}
use Rattle.rcu_geometry.proofs.geometry.Geometry.level_nodes.Goals as goal

pub returns-clause-few : goal.returns-clause-few
returns-clause-few g c =
    let next = start_next c.args.self.now c.args.i in
    let within = level_within c.args.self.now c.args.i c.start.ensures.shape in
    omega arith

pub returns-clause-leaves : goal.returns-clause-leaves
returns-clause-leaves g c last =
    let next = start_next c.args.self.now c.args.i in
    let difference : c.start.result - c.start-2.result ≡ level_nodes c.args.self.now c.args.i =
    omega arith in
    difference ∙ leaves_by c.args.self.now c.args.i g.row.LEAF last c.start.ensures.leaf
