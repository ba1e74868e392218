use Rattle.std.proofs.Common.{sym, arith}
use Rattle.std.proofs.lemmas.Grind.{common_steps}
use Rattle.rcu_geometry.proofs.Places.{bit_by}
use Rattle.rcu_geometry.proofs.geometry.Geometry.bit_in_parent.Goals as goal

pub returns-clause-value : goal.returns-clause-value
returns-clause-value g c =
    let value =
    bit_by c.args.self.now c.args.node c.level_of.result c.start.result g.row.FAN
    (sym c.start.ensures.fanout) c.level_of.ensures.value c.start.ensures.value in
    grind (arith, common_steps, value, c.then_some.ensures)
