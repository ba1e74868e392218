use Rattle.rcu_live.proofs.Finishing.{barrier_finishes}
use Rattle.rcu_live.proofs.progress.handed_out_callbacks_finish_a_barrier.Goals as goal

pub returns : goal.returns
returns g c =
    λ first later visited.
    barrier_finishes first later visited c.handed_out_callbacks_finish_a_barrier.ensures
