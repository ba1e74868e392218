use Rattle.rcu_node.proofs.MergingLemmas.{merged-associates}
use Rattle.rcu_node.proofs.laws.merging_associates.Goals as goal

pub returns : goal.returns
returns c = merged-associates
