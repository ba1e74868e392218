use Rattle.std.proofs.Common.{◌≡◌, ◌≤◌, ℕ, slice_index, slice_set}
use Rattle.rcu_geometry.specs.Geometry.{first_leaf}
use Rattle.rcu_node.specs.Masks.{group_masks, now_masks, start_masks}
use Rattle.rcu_node.specs.Steps.{AreLinkedUpTo}
use Rattle.rcu_node.proofs.fill.fill_leaf.Given as goal

-- this node was empty and is not now, and the leaf has its mask
abbrev pub invariant-loop-parent : goal.invariant-loop-parent
invariant-loop-parent g l = record {
  linked : AreLinkedUpTo l.geometry (now_masks l.nodes.items) l.node;
  leaves : (k : ℕ) → first_leaf l.geometry ≤ k → slice_index (now_masks l.nodes.items) k
      ≡ slice_index (slice_set (now_masks l.fn.nodes.items) l.leaf l.mask) k;
  both : start_masks l.nodes.items ≡ now_masks l.nodes.items;
  group : group_masks l.nodes.items ≡ group_masks l.fn.nodes.items;
}

abbrev pub decreases-loop-parent : goal.decreases-loop-parent
decreases-loop-parent g l = l.node
