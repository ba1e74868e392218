use Rattle.rcu_node.proofs.CpuSetLemmas.{length-listed}
use Rattle.rcu_node.proofs.laws.listed_has_its_length.Goals as goal

pub returns : goal.returns
returns c = length-listed
