use Rattle.std.proofs.Common.{◌≡◌, ◌+◌, ◌-◌, ◌*◌}
use Rattle.rcu_node.specs.Masks.{group_masks, now_masks, start_masks}
use Rattle.rcu_node.specs.Steps.{AreEmptyWithin}
use Rattle.rcu_node.proofs.emptying.empty_level.Given as goal

-- the children of the nodes before this one are empty, and the other nodes as they were
abbrev pub invariant-loop-node : goal.invariant-loop-node
invariant-loop-node g l = record {
  now : AreEmptyWithin (now_masks l.fn.nodes.items) (now_masks l.nodes.items) l.first
      (l.first + (l.node - l.above) * l.geometry.fan);
  start : AreEmptyWithin (start_masks l.fn.nodes.items) (start_masks l.nodes.items) l.first
      (l.first + (l.node - l.above) * l.geometry.fan);
  group : group_masks l.nodes.items ≡ group_masks l.fn.nodes.items;
}
