use Rattle.std.proofs.Common.{◌≡◌, replicate}
use Rattle.rcu_geometry.specs.Geometry.{nodes}
use Rattle.rcu_node.specs.Masks.{group_masks, now_masks, start_masks}
use Rattle.rcu_node.specs.Steps.{AreMarked}
use Rattle.rcu_node.proofs.making.new_nodes.Given as goal

-- the nodes before this one are marked
abbrev pub invariant-loop-node : goal.invariant-loop-node
invariant-loop-node g l = record {
  marked : AreMarked l.geometry (group_masks l.nodes.items) l.node;
  now : now_masks l.nodes.items ≡ replicate (nodes l.geometry) 0;
  start : start_masks l.nodes.items ≡ replicate (nodes l.geometry) 0;
}
