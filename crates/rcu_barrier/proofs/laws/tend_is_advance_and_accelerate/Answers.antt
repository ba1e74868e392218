use Rattle.rcu_barrier.proofs.Fours.{tend_is}
use Rattle.rcu_barrier.proofs.laws.tend_is_advance_and_accelerate.Goals as goal

pub returns : goal.returns
returns g c = λ number xs state fours. tend_is number xs state fours
