use Rattle.rcu_node.proofs.MergingLemmas.{merged-alike_first, merged-alike_second}
use Rattle.rcu_node.proofs.laws.merged_stays_alike.Goals as goal

pub returns-clause-first : goal.returns-clause-first
returns-clause-first c = merged-alike_first

pub returns-clause-second : goal.returns-clause-second
returns-clause-second c = merged-alike_second
