use Rattle.std.proofs.Common.{◌<◌, ◌∙◌, ap, arith, lit<}
use Rattle.rcu_geometry.specs.Geometry.{Shape, nodes}
use Rattle.rcu_node.specs.Masks.{group_of, now_masks}
use Rattle.rcu_node.proofs.Members.{shape_of_flags}
use Rattle.rcu_node.proofs.tree.Tree+LEAF+FAN.grpmask.Goals as goal

pub grpmask-requires : goal.grpmask-requires
grpmask-requires g c =
    let tree = c.args.self.now.sets in
    let s = tree.geometry in
    let flags = shape_of_flags s g.row.LEAF g.row.FAN (now_masks tree.nodes.items) tree.shaped in
    let same = ap (λ (s : Shape). nodes s) flags in
    (lit< tt, omega (arith, c.requires, same))

pub returns : goal.returns
returns g c =
    let tree = c.args.self.now.sets in
    let s = tree.geometry in
    let flags = shape_of_flags s g.row.LEAF g.row.FAN (now_masks tree.nodes.items) tree.shaped in
    let same = ap (λ (s : Shape). nodes s) flags in
    let here : c.args.node < nodes s = omega (arith, c.requires, same) in
    c.grpmask.ensures
    ∙ tree.groups.bit c.args.node here
    ∙ ap (λ (s : Shape). group_of s c.args.node) flags
