use Rattle.rcu_defer.proofs.Waits.{all_counted, taken_done}
use Rattle.rcu_defer.proofs.laws.deferrals_are_counted_once.Goals as goal

pub returns-clause-taken : goal.returns-clause-taken
returns-clause-taken g c = λ calls. taken_done calls

pub returns-clause-all : goal.returns-clause-all
returns-clause-all g c = λ calls. all_counted calls
