use Rattle.rcu_node.proofs.MergingLemmas.{merged-at_least_first, merged-at_least_second}
use Rattle.rcu_node.proofs.MergingLemmas.{merged-least}
use Rattle.rcu_node.proofs.laws.merged_is_the_least_of_both.Goals as goal

pub returns-clause-first : goal.returns-clause-first
returns-clause-first c = merged-at_least_first

pub returns-clause-second : goal.returns-clause-second
returns-clause-second c = merged-at_least_second

pub returns-clause-least : goal.returns-clause-least
returns-clause-least c = merged-least
