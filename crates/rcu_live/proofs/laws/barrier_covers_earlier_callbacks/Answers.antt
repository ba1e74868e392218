use Rattle.rcu_live.proofs.ListRuns.{earlier_are_handed}
use Rattle.rcu_live.proofs.laws.barrier_covers_earlier_callbacks.Goals as goal

pub returns : goal.returns
returns g c =
    λ first calls place new is.
    earlier_are_handed first calls place new c.barrier_covers_earlier_callbacks.ensures is
