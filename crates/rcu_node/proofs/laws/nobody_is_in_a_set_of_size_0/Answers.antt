use Rattle.rcu_node.proofs.CpuSetLemmas.{nobody_in}
use Rattle.rcu_node.proofs.laws.nobody_is_in_a_set_of_size_0.Goals as goal

pub returns : goal.returns
returns c = λ set cpu none. nobody_in set none cpu
