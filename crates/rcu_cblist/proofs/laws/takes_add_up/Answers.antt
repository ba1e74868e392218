use Rattle.rcu_cblist.proofs.Popping.{left_both, taken_both}
use Rattle.rcu_cblist.proofs.laws.takes_add_up.Goals as goal

pub returns-clause-calls : goal.returns-clause-calls
returns-clause-calls g c = λ a b xs. taken_both a b xs

pub returns-clause-left : goal.returns-clause-left
returns-clause-left g c = λ a b xs. left_both a b xs
