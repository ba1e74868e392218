use Rattle.rcu_barrier.proofs.AsQueued.{handed_was_queued}
use Rattle.rcu_barrier.proofs.run_laws.handed_callbacks_were_queued.Goals as goal

pub returns : goal.returns
returns g c = λ first calls cpu most at handed new is there.
    handed_was_queued first calls cpu most at handed new there
