use Rattle.std.proofs.Common.{ap, arith, lit<, length}
use Rattle.rcu_geometry.specs.Geometry.{Shape, nodes, shape}
use Rattle.rcu_node.specs.Masks.{members, now_masks, start_masks}
use Rattle.rcu_node.proofs.Members.{is_mask, shape_of_flags}
use Rattle.rcu_node.proofs.tree.Tree+LEAF+FAN.qsmaskinit.Goals as goal

pub qsmaskinit-requires : goal.qsmaskinit-requires
qsmaskinit-requires g c =
    let tree = c.args.self.now.sets in
    let s = tree.geometry in
    let flags = shape_of_flags s g.row.LEAF g.row.FAN (now_masks tree.nodes.items) tree.shaped in
    let same = ap (λ (s : Shape). nodes s) flags in
    (lit< tt, omega (arith, c.requires, same))

pub returns : goal.returns
returns g c =
    let tree = c.args.self.now.sets in
    let s = tree.geometry in
    let flags = shape_of_flags s g.row.LEAF g.row.FAN (now_masks tree.nodes.items) tree.shaped in
    is_mask s (shape g.row.LEAF g.row.FAN (length (members s (now_masks tree.nodes.items))))
    (start_masks tree.nodes.items) c.args.node c.qsmaskinit.result
    flags tree.started c.qsmaskinit.ensures
