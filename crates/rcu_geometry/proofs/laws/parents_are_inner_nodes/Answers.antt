use Rattle.rcu_geometry.proofs.Places.{has_parent}
use Rattle.rcu_geometry.proofs.laws.parents_are_inner_nodes.Goals as goal

pub returns-clause-inner : goal.returns-clause-inner
returns-clause-inner c = λ s node legal other below. (has_parent s node legal other below).inner

pub returns-clause-before : goal.returns-clause-before
returns-clause-before c = λ s node legal other below. (has_parent s node legal other below).before

pub returns-clause-one_level_up : goal.returns-clause-one_level_up
returns-clause-one_level_up c = λ s node legal other below. (has_parent s node legal other below).up

pub returns-clause-bit : goal.returns-clause-bit
returns-clause-bit c = λ s node legal other below. (has_parent s node legal other below).bit
