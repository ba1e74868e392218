use Rattle.rcu_barrier.proofs.Once.{none_lost}
use Rattle.rcu_barrier.proofs.run_laws.no_callback_is_lost.Goals as goal

pub returns : goal.returns
returns g c = λ first calls place. none_lost first calls place
