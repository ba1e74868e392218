use Rattle.std.proofs.Common.{◌≡◌, ◌-◌, ◌≤◌}
use Rattle.rcu_geometry.specs.Geometry.{first_leaf, nodes}
use Rattle.rcu_node.specs.Masks.{AreLinked, group_masks, now_masks, start_masks}
use Rattle.rcu_node.specs.Steps.{AreFilled}
use Rattle.rcu_node.proofs.fill.fill.Given as goal

-- the leaves before this one have their bits, and the nodes above them theirs
abbrev pub invariant-loop-cpu : goal.invariant-loop-cpu
invariant-loop-cpu g l = record {
  from : first_leaf l.geometry ≤ l.leaf;
  here : l.leaf ≤ nodes l.geometry;
  linked : AreLinked l.geometry (now_masks l.nodes.items);
  filled : AreFilled l.geometry l.set (now_masks l.nodes.items) l.leaf;
  both : start_masks l.nodes.items ≡ now_masks l.nodes.items;
  group : group_masks l.nodes.items ≡ group_masks l.fn.nodes.items;
}

abbrev pub decreases-loop-cpu : goal.decreases-loop-cpu
decreases-loop-cpu g l = nodes l.geometry - l.leaf
