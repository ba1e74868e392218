use Rattle.rcu_node.proofs.MergingLemmas.{are_alike-Decides}
use Rattle.rcu_node.proofs.laws.alike_where_nothing_differs.Goals as goal

pub returns : goal.returns
returns c = are_alike-Decides
