use Rattle.std.proofs.Common.{◌==◌, ◌∙◌, ap, arith}
use Rattle.std.proofs.lemmas.List.{length-map}
use Rattle.rcu_node.specs.Masks.{members, now_masks}
use Rattle.rcu_node.specs.declared.node.Node.{Node}
use Rattle.rcu_node.proofs.Members.{length-members, masks_of_members}
use Rattle.rcu_node.proofs.Roots.{root_here, root_tells}
use Rattle.rcu_node.proofs.nodes.NodesPeriodSets.is_empty.Goals as goal

pub now_mask-requires : goal.now_mask-requires
now_mask-requires g c =
    let tree = c.args.self.now in
    let root = root_here tree.geometry tree.legal in
    let sized = tree.awaited.owned.sized in
    let same = length-map tree.nodes.items (λ (node : Node). node.qsmask) in
    omega (arith, root, sized, same)

pub returns : goal.returns
returns g c =
    let tree = c.args.self.now in
    let masks = now_masks tree.nodes.items in
    ap (λ mask. mask == 0) c.now_mask.ensures
    ∙ root_tells tree.geometry (members tree.geometry masks) masks tree.legal
    (length-members tree.geometry masks) (masks_of_members tree.geometry masks tree.awaited)
