use Rattle.std.proofs.Common.{◌∙◌, sym}
use Rattle.rcu_geometry.specs.Geometry.{parent}
use Rattle.rcu_node.specs.Masks.{group_masks, now_masks}
use Rattle.rcu_node.proofs.Walks.{next_step, some_parent}
use Rattle.rcu_node.proofs.walk.step.Goals as goal

pub returns-clause-on : goal.returns-clause-on
returns-clause-on g c =
    let s = c.args.geometry.now in
    let nodes = c.args.nodes.now.items in
    let up = some_parent c.args.node c.in_ok-parent.parent (parent s c.args.node)
    c.in_ok-parent.ensures.value in
    (next_step s (now_masks nodes) (group_masks nodes) (now_masks c.clear.new.nodes.items)
    c.args.node c.in_ok-parent.parent c.group_mask-own.result c.requires.legal c.requires.masks
    c.requires.groups up.some (sym c.now_mask.ensures ∙ c.if-now_mask-ne0.false) up.is
    c.group_mask-own.ensures c.clear.ensures.now).cleared

pub returns-clause-members : goal.returns-clause-members
returns-clause-members g c =
    let s = c.args.geometry.now in
    let nodes = c.args.nodes.now.items in
    let up = some_parent c.args.node c.in_ok-parent.parent (parent s c.args.node)
    c.in_ok-parent.ensures.value in
    (next_step s (now_masks nodes) (group_masks nodes) (now_masks c.clear.new.nodes.items)
    c.args.node c.in_ok-parent.parent c.group_mask-own.result c.requires.legal c.requires.masks
    c.requires.groups up.some (sym c.now_mask.ensures ∙ c.if-now_mask-ne0.false) up.is
    c.group_mask-own.ensures c.clear.ensures.now).members
