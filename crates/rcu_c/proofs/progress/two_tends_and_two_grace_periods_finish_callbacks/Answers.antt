use Rattle.std.proofs.Common.{◌++◌, ◌∷◌}
use Rattle.rcu_live.specs.Runs.{Tend, engine_after}
use Rattle.rcu_c.proofs.progress.two_tends_and_two_grace_periods_finish_callbacks.Goals as goal

pub returns-clause-done : goal.returns-clause-done
returns-clause-done c = λ first later earlier cpu place new run two none some inside one.
    c.two_tends_and_a_grace_period_finish_callbacks.ensures.done first later earlier cpu place new
    run
    (c.two_grace_periods_reach_the_snapshot.ensures.reached (engine_after first earlier)
    (engine_after first (later ++ Tend cpu ∷ earlier)) two)
    none some inside one

pub returns-clause-handed_out : goal.returns-clause-handed_out
returns-clause-handed_out c =
    λ first later earlier cpu place room new run two none some inside one enough.
    c.two_tends_and_a_grace_period_finish_callbacks.ensures.handed_out first later earlier cpu place
    room new run
    (c.two_grace_periods_reach_the_snapshot.ensures.reached (engine_after first earlier)
    (engine_after first (later ++ Tend cpu ∷ earlier)) two)
    none some inside one enough
