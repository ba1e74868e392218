use Rattle.std.proofs.Common.{◌≡◌, ◌≤◌}
use Rattle.rcu_geometry.specs.Geometry.{level_start, levels}
use Rattle.rcu_node.specs.Masks.{group_masks, now_masks, start_masks}
use Rattle.rcu_node.specs.Steps.{AreEmptyFrom}
use Rattle.rcu_node.proofs.emptying.empty.Given as goal

-- the levels from this one on are empty, and those before as they were
abbrev pub invariant-loop-level : goal.invariant-loop-level
invariant-loop-level g l = record {
  some : 1 ≤ l.level;
  here : l.level ≤ levels l.geometry;
  now : AreEmptyFrom (now_masks l.fn.nodes.items) (now_masks l.nodes.items)
      (level_start l.geometry l.level);
  start : AreEmptyFrom (start_masks l.fn.nodes.items) (start_masks l.nodes.items)
      (level_start l.geometry l.level);
  group : group_masks l.nodes.items ≡ group_masks l.fn.nodes.items;
}

abbrev pub decreases-loop-level : goal.decreases-loop-level
decreases-loop-level g l = l.level
