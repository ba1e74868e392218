use Rattle.rcu_core.proofs.Marked.{barrier_finishes}
use Rattle.rcu_core.proofs.progress.handed_out_callbacks_finish_a_barrier.Goals as goal

pub returns : goal.returns
returns c = barrier_finishes
