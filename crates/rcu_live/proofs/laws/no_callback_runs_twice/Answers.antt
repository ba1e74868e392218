use Rattle.rcu_live.proofs.ListRuns.{at_most_once}
use Rattle.rcu_live.proofs.laws.no_callback_runs_twice.Goals as goal

pub returns : goal.returns
returns g c =
    λ first calls place new is.
    at_most_once first calls place new c.no_callback_runs_twice.ensures is
