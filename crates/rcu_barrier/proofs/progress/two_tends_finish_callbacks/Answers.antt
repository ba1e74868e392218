use Rattle.rcu_barrier.proofs.Handing.{none_left_waiting, then_handed_out}
use Rattle.rcu_barrier.proofs.progress.two_tends_finish_callbacks.Goals as goal

pub returns-clause-done : goal.returns-clause-done
returns-clause-done g c = none_left_waiting

pub returns-clause-handed_out : goal.returns-clause-handed_out
returns-clause-handed_out g c = then_handed_out
