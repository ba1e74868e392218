use Rattle.rcu_node.proofs.MergingLemmas.{merged-itself, merged-again}
use Rattle.rcu_node.proofs.laws.merging_again_changes_nothing.Goals as goal

pub returns-clause-itself : goal.returns-clause-itself
returns-clause-itself c = merged-itself

pub returns-clause-again : goal.returns-clause-again
returns-clause-again c = merged-again
