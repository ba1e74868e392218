use Rattle.std.proofs.Common.{◌≡◌}
use Rattle.rcu_node.specs.Masks.{group_masks, now_masks, start_masks}
use Rattle.std.proofs.Common.{slice_index}
use Rattle.rcu_node.specs.Steps.{AreClearedBut}
use Rattle.rcu_node.proofs.emptying.empty_children.Given as goal

-- the children of the bits that are left are as they were, and the others of the node are empty
abbrev pub invariant-loop-children : goal.invariant-loop-children
invariant-loop-children l = record {
  now : AreClearedBut (now_masks l.fn.nodes.items) (now_masks l.nodes.items) l.first
      (slice_index (start_masks l.fn.nodes.items) l.node) l.children;
  start : AreClearedBut (start_masks l.fn.nodes.items) (start_masks l.nodes.items) l.first
      (slice_index (start_masks l.fn.nodes.items) l.node) l.children;
  group : group_masks l.nodes.items ≡ group_masks l.fn.nodes.items;
}

abbrev pub decreases-loop-children : goal.decreases-loop-children
decreases-loop-children l = l.children
