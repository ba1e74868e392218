use Rattle.rcu_geometry.proofs.Children.{few_cpus}
use Rattle.rcu_geometry.proofs.laws.a_leaf_has_at_most_leaf_processors.Goals as goal

pub returns : goal.returns
returns c = few_cpus
