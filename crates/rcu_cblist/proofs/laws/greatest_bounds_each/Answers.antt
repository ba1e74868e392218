use Rattle.rcu_cblist.proofs.Numbers.{at_most_none, at_most_some}
use Rattle.rcu_cblist.proofs.laws.greatest_bounds_each.Goals as goal

pub returns-clause-none : goal.returns-clause-none
returns-clause-none c = at_most_none

pub returns-clause-some : goal.returns-clause-some
returns-clause-some c = at_most_some
