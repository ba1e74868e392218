use Rattle.rcu_live.proofs.ListRuns.{none_lost}
use Rattle.rcu_live.proofs.laws.no_callback_is_lost.Goals as goal

pub returns : goal.returns
returns g c =
    λ first calls place new is. none_lost first calls place new c.no_callback_is_lost.ensures is
