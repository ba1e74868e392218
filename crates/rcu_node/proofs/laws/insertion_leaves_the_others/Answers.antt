use Rattle.rcu_node.proofs.CpuSetLemmas.{is_in-insert}
use Rattle.rcu_node.proofs.laws.insertion_leaves_the_others.Goals as goal

pub returns : goal.returns
returns c = is_in-insert
