use Rattle.std.proofs.Common.{◌∙◌, ap}
use Rattle.rcu_geometry.specs.Geometry.{Shape, nodes}
use Rattle.rcu_node.specs.Masks.{now_masks}
use Rattle.rcu_node.proofs.Members.{shape_of_flags}
use Rattle.rcu_node.proofs.tree.Tree+LEAF+FAN.nodes.Goals as goal

pub returns : goal.returns
returns g c =
    let tree = c.args.self.now.sets in
    let s = tree.geometry in
    let flags = shape_of_flags s g.row.LEAF g.row.FAN (now_masks tree.nodes.items) tree.shaped in
    c.nodes.ensures ∙ ap (λ (s : Shape). nodes s) flags
