use Rattle.rcu_barrier.proofs.Finishing.{barrier_finishes}
use Rattle.rcu_barrier.proofs.progress.handed_out_callbacks_finish_a_barrier.Goals as goal

pub returns : goal.returns
returns g c = barrier_finishes
