use Rattle.std.proofs.Common.{◌≡◌, false, slice_set}
use Rattle.rcu_node.specs.Masks.{group_masks, members, now_masks, start_masks}
use Rattle.rcu_node.specs.Steps.{AreLinkedBut}
use Rattle.rcu_node.proofs.walk.walk.Given as goal

-- this node lost a bit, and the processor is awaited no more
abbrev pub invariant-loop-parent : goal.invariant-loop-parent
invariant-loop-parent g l = record {
  cleared : AreLinkedBut l.geometry (now_masks l.nodes.items) l.node;
  members : members l.geometry (now_masks l.nodes.items)
      ≡ slice_set (members l.geometry (now_masks l.fn.nodes.items)) l.cpu false;
  start : start_masks l.nodes.items ≡ start_masks l.fn.nodes.items;
  group : group_masks l.nodes.items ≡ group_masks l.fn.nodes.items;
}

abbrev pub decreases-loop-parent : goal.decreases-loop-parent
decreases-loop-parent g l = l.node
