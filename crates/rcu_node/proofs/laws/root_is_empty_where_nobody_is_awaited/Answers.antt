use Rattle.rcu_node.proofs.Roots.{root_tells}
use Rattle.rcu_node.proofs.laws.root_is_empty_where_nobody_is_awaited.Goals as goal

pub returns : goal.returns
returns c = root_tells
