use Rattle.std.proofs.Common.{◌∙◌, ap, slice_index, slice_set, sym}
use Rattle.rcu_node.specs.Masks.{now_masks}
use Rattle.rcu_node.proofs.Fills.{leaf_put}
use Rattle.rcu_node.proofs.fill.fill_leaf.Goals as goal

pub loop-parent-init : goal.loop-parent-init
loop-parent-init g c =
    let written = c.put_both.ensures.now in
    record {
      linked = rw written
          (leaf_put c.args.geometry.now (now_masks c.args.nodes.now.items) c.args.leaf c.args.mask
          c.requires.legal c.requires.masks c.requires.leaf c.requires.here c.requires.empty
          c.requires.mask);
      leaves = λ k _. ap (λ masks. slice_index masks k) written;
      both = c.put_both.ensures.start
          ∙ ap (λ masks. slice_set masks c.args.leaf c.args.mask) c.requires.both
          ∙ sym written;
      group = c.put_both.ensures.group;
    }
