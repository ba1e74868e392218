use Rattle.std.proofs.Common.{◌∙◌, ap, bit_or, slice_set, sym}
use Rattle.rcu_geometry.specs.Geometry.{parent}
use Rattle.rcu_node.specs.Masks.{group_masks, now_masks}
use Rattle.rcu_node.proofs.Fills.{step_up}
use Rattle.rcu_node.proofs.Walks.{some_parent}
use Rattle.rcu_node.proofs.fill.set_in_parent.Goals as goal

pub returns-then-mask-ne0-clause-end : goal.returns-then-mask-ne0-clause-end
returns-then-mask-ne0-clause-end g c =
    let s = c.args.geometry.now in
    let nodes = c.args.nodes.now.items in
    let up = some_parent c.args.node c.in_ok-parent.parent (parent s c.args.node)
    c.in_ok-parent.ensures.value in
    (step_up s (now_masks nodes) (group_masks nodes) (now_masks c.put_both.new.nodes.items)
    c.args.node c.in_ok-parent.parent c.group_mask-own.result c.requires.legal c.requires.masks
    c.requires.groups up.some up.is c.group_mask-own.ensures
    (c.put_both.ensures.now
    ∙ ap (λ mask. slice_set (now_masks nodes) c.in_ok-parent.parent
    (bit_or mask c.group_mask-own.result)) c.now_mask-mask.ensures)).end
    (λ none. c.if-mask-ne0.true (c.now_mask-mask.ensures ∙ none))

pub returns-then-mask-ne0-clause-leaves : goal.returns-then-mask-ne0-clause-leaves
returns-then-mask-ne0-clause-leaves g c =
    let s = c.args.geometry.now in
    let nodes = c.args.nodes.now.items in
    let up = some_parent c.args.node c.in_ok-parent.parent (parent s c.args.node)
    c.in_ok-parent.ensures.value in
    (step_up s (now_masks nodes) (group_masks nodes) (now_masks c.put_both.new.nodes.items)
    c.args.node c.in_ok-parent.parent c.group_mask-own.result c.requires.legal c.requires.masks
    c.requires.groups up.some up.is c.group_mask-own.ensures
    (c.put_both.ensures.now
    ∙ ap (λ mask. slice_set (now_masks nodes) c.in_ok-parent.parent
    (bit_or mask c.group_mask-own.result)) c.now_mask-mask.ensures)).leaves

pub returns-clause-on : goal.returns-clause-on
returns-clause-on g c =
    let s = c.args.geometry.now in
    let nodes = c.args.nodes.now.items in
    let up = some_parent c.args.node c.in_ok-parent.parent (parent s c.args.node)
    c.in_ok-parent.ensures.value in
    (step_up s (now_masks nodes) (group_masks nodes) (now_masks c.put_both.new.nodes.items)
    c.args.node c.in_ok-parent.parent c.group_mask-own.result c.requires.legal c.requires.masks
    c.requires.groups up.some up.is c.group_mask-own.ensures
    (c.put_both.ensures.now
    ∙ ap (λ mask. slice_set (now_masks nodes) c.in_ok-parent.parent
    (bit_or mask c.group_mask-own.result)) c.now_mask-mask.ensures)).on
    (sym c.now_mask-mask.ensures ∙ c.if-mask-ne0.false)

pub returns-clause-leaves : goal.returns-clause-leaves
returns-clause-leaves g c =
    let s = c.args.geometry.now in
    let nodes = c.args.nodes.now.items in
    let up = some_parent c.args.node c.in_ok-parent.parent (parent s c.args.node)
    c.in_ok-parent.ensures.value in
    (step_up s (now_masks nodes) (group_masks nodes) (now_masks c.put_both.new.nodes.items)
    c.args.node c.in_ok-parent.parent c.group_mask-own.result c.requires.legal c.requires.masks
    c.requires.groups up.some up.is c.group_mask-own.ensures
    (c.put_both.ensures.now
    ∙ ap (λ mask. slice_set (now_masks nodes) c.in_ok-parent.parent
    (bit_or mask c.group_mask-own.result)) c.now_mask-mask.ensures)).leaves
