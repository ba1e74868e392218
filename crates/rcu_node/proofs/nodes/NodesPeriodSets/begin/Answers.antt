use Rattle.std.proofs.Common.{◌∙◌, ap, lit<}
use Rattle.rcu_node.specs.Masks.{now_masks, start_masks}
use Rattle.rcu_node.proofs.Members.{length-members}
use Rattle.rcu_node.proofs.Parts.{part_has_no_more}
use Rattle.rcu_node.proofs.nodes.NodesPeriodSets.begin.Goals as goal

pub empty-requires : goal.empty-requires
empty-requires g c =
    let tree = c.args.self.now in
    let within =
    part_has_no_more tree.geometry (now_masks tree.nodes.items) (start_masks tree.nodes.items)
    tree.legal tree.awaited tree.started tree.within in
    (lit< tt, (tree.legal, (ap (λ s. s.fan) tree.shaped, (tree.started, within))))

pub fill-requires : goal.fill-requires
fill-requires g c =
    let tree = c.args.self.now in
    let set = c.requires ∙ length-members tree.geometry (now_masks tree.nodes.items) in (
      lit< tt,
      (
        tree.legal,
        (
          ap (λ s. s.leaf) tree.shaped,
          (
            set,
            (
              rw c.empty.ensures.group tree.groups,
              (c.empty.ensures.now, c.empty.ensures.start),
            ),
          ),
        ),
      ),
    )
