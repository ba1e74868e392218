use Rattle.rcu_defer.proofs.Waits.{due_front, due_longest}
use Rattle.rcu_defer.proofs.laws.due_is_the_longest_front.Goals as goal

pub returns-clause-front : goal.returns-clause-front
returns-clause-front c = λ n us. due_front n us

pub returns-clause-longest : goal.returns-clause-longest
returns-clause-longest c = λ n us. due_longest n us
