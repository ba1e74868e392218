use Rattle.rcu_node.specs.Masks.{now_masks}
use Rattle.rcu_node.proofs.Walks.{first_step}
use Rattle.rcu_node.proofs.walk.walk.Goals as goal

pub loop-parent-init : goal.loop-parent-init
loop-parent-init g c =
    let cleared =
    first_step c.args.geometry.now (now_masks c.args.nodes.now.items)
    (now_masks c.clear.new.nodes.items) c.args.cpu c.leaf_of-node.result c.bit_of.result
    c.requires.legal c.requires.masks c.requires.cpu c.requires.awaited c.leaf_of-node.ensures.value
    c.bit_of.ensures.value c.clear.ensures.now in
    record {
      cleared = cleared.cleared;
      members = cleared.members;
      start = c.clear.ensures.start;
      group = c.clear.ensures.group;
    }
