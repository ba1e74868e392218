use Rattle.rcu_core.proofs.Maturing.{none_left_waiting, then_handed_out}
use Rattle.rcu_core.proofs.progress.two_tends_and_a_grace_period_finish_callbacks.Goals as goal

pub returns-clause-done : goal.returns-clause-done
returns-clause-done c = none_left_waiting

pub returns-clause-handed_out : goal.returns-clause-handed_out
returns-clause-handed_out c = then_handed_out
