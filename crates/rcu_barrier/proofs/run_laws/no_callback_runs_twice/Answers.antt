use Rattle.rcu_barrier.proofs.Once.{at_most_once}
use Rattle.rcu_barrier.proofs.run_laws.no_callback_runs_twice.Goals as goal

pub returns : goal.returns
returns g c = λ first calls place. at_most_once first calls place
