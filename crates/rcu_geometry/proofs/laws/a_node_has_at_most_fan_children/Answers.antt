use Rattle.rcu_geometry.proofs.Children.{few_children}
use Rattle.rcu_geometry.proofs.laws.a_node_has_at_most_fan_children.Goals as goal

pub returns : goal.returns
returns c = few_children
