use Rattle.std.proofs.Common.{ne_eqb, Some, sym, ap, arith}
use Rattle.rcu_geometry.proofs.Places.{has_parent, parent_by}
use Rattle.rcu_geometry.proofs.geometry.Geometry.parent.Goals as goal

pub overflow_sub-level : goal.overflow_sub-level
overflow_sub-level g c =
    c.level_of-level.ensures.below_root (let other = c.if-node-eq0.false in grind (arith, other))

pub overflow_add-result : goal.overflow_add-result
overflow_add-result g c =
    let s = c.args.self.now in
    let value =
    parent_by s c.args.node c.level_of-level.result c.start.result c.start-2.result g.row.FAN
    (sym c.start.ensures.fanout) c.level_of-level.ensures.value c.start.ensures.value
    c.start-2.ensures.value in
    let up =
    has_parent s c.args.node c.start.ensures.shape
    (let other = c.if-node-eq0.false in grind (arith, other)) c.requires in
    omega (arith, value, up.before)

pub returns : goal.returns
returns g c =
    let s = c.args.self.now in
    let value =
    parent_by s c.args.node c.level_of-level.result c.start.result c.start-2.result g.row.FAN
    (sym c.start.ensures.fanout) c.level_of-level.ensures.value c.start.ensures.value
    c.start-2.ensures.value in
    let up =
    has_parent s c.args.node c.start.ensures.shape
    (let other = c.if-node-eq0.false in grind (arith, other)) c.requires in
    record {
      value = rw (ne_eqb c.args.node 0 c.if-node-eq0.false) (ap (λ node. Some node) value);
      one_level_up = rw value up.up;
      before = rw value up.before;
    }
