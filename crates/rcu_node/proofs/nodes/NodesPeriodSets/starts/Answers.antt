use Rattle.std.proofs.Common.{arith, lit<}
use Rattle.rcu_node.specs.Masks.{now_masks, start_masks}
use Rattle.rcu_node.proofs.Members.{is_member, length-members}
use Rattle.rcu_node.proofs.nodes.NodesPeriodSets.starts.Goals as goal

pub leaf_of-requires : goal.leaf_of-requires
leaf_of-requires g c =
    let tree = c.args.self.now in
    let sized = length-members tree.geometry (now_masks tree.nodes.items) in
    (lit< tt, omega (arith, c.requires, sized))

pub bit_of-requires : goal.bit_of-requires
bit_of-requires g c =
    let tree = c.args.self.now in
    let sized = length-members tree.geometry (now_masks tree.nodes.items) in
    (lit< tt, omega (arith, c.requires, sized))

pub returns : goal.returns
returns g c =
    let tree = c.args.self.now in
    let sized = length-members tree.geometry (now_masks tree.nodes.items) in
    is_member tree.geometry (start_masks tree.nodes.items) c.args.cpu c.leaf_of.result
    c.bit_of.result c.start_mask-mask.result (omega (arith, c.requires, sized))
    c.leaf_of.ensures.value c.bit_of.ensures.value c.start_mask-mask.ensures
