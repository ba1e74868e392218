use Rattle.rcu_barrier.proofs.Fours.{none_unmarked}
use Rattle.rcu_barrier.proofs.laws.tend_marks_each_callback.Goals as goal

pub returns : goal.returns
returns g c = λ number xs place call. none_unmarked number xs place call
