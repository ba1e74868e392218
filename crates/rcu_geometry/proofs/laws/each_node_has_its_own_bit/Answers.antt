use Rattle.rcu_geometry.proofs.Places.{same_child}
use Rattle.rcu_geometry.proofs.laws.each_node_has_its_own_bit.Goals as goal

pub returns : goal.returns
returns c = same_child
