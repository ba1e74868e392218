use Rattle.rcu_core.proofs.BarrierEnding.{can_finish_barrier}
use Rattle.rcu_core.proofs.progress.a_barrier_can_be_done.Goals as goal

pub returns : goal.returns
returns c = can_finish_barrier
