use Rattle.rcu_barrier.proofs.Barriers.{earlier_are_handed}
use Rattle.rcu_barrier.proofs.run_laws.barrier_covers_earlier_callbacks.Goals as goal

pub returns : goal.returns
returns g c = λ first calls place. earlier_are_handed first calls place
