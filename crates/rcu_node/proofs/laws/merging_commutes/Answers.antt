use Rattle.rcu_node.proofs.MergingLemmas.{merged-commutes}
use Rattle.rcu_node.proofs.laws.merging_commutes.Goals as goal

pub returns : goal.returns
returns c = merged-commutes
