use Rattle.rcu_live.proofs.Handing.{none_left_waiting, then_handed_out}
use Rattle.rcu_live.proofs.progress.two_tends_and_a_grace_period_finish_callbacks.Goals as goal

pub returns-clause-done : goal.returns-clause-done
returns-clause-done g c =
    λ first later earlier cpu place new. none_left_waiting first later earlier cpu place new

pub returns-clause-handed_out : goal.returns-clause-handed_out
returns-clause-handed_out g c =
    λ first later earlier cpu place most new.
    then_handed_out first later earlier cpu place new most
