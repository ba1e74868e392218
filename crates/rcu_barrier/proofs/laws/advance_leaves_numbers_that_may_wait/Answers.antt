use Rattle.rcu_barrier.proofs.Fours.{left_may_wait}
use Rattle.rcu_barrier.proofs.laws.advance_leaves_numbers_that_may_wait.Goals as goal

pub returns : goal.returns
returns g c = λ number xs fours within. left_may_wait number xs fours within
