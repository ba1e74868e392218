use Rattle.rcu_geometry.proofs.Places.{same_cpu}
use Rattle.rcu_geometry.proofs.laws.each_processor_has_its_own_bit.Goals as goal

pub returns : goal.returns
returns c = λ s one two legal below_one below_two. same_cpu s one two
