use Rattle.rcu_node.proofs.MergingLemmas.{at_least-itself, at_least-on, at_least-both}
use Rattle.rcu_node.proofs.laws.at_least_is_an_order.Goals as goal

pub returns-clause-itself : goal.returns-clause-itself
returns-clause-itself c = at_least-itself

pub returns-clause-chain : goal.returns-clause-chain
returns-clause-chain c = at_least-on

pub returns-clause-both : goal.returns-clause-both
returns-clause-both c = at_least-both
