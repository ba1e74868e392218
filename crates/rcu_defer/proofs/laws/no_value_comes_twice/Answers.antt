use Rattle.rcu_defer.proofs.Orders.{same_marks, taken_counted, taken_first}
use Rattle.rcu_defer.proofs.laws.no_value_comes_twice.Goals as goal

pub returns-clause-first : goal.returns-clause-first
returns-clause-first g c = λ calls. taken_first calls

pub returns-clause-taken : goal.returns-clause-taken
returns-clause-taken g c = λ calls. taken_counted calls

pub returns-clause-marks : goal.returns-clause-marks
returns-clause-marks g c = λ calls. same_marks calls
