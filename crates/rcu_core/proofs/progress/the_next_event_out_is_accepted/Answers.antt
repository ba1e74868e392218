use Rattle.rcu_core.proofs.WayOut.{none_is_next, some_is_next, step_out}
use Rattle.rcu_core.proofs.progress.the_next_event_out_is_accepted.Goals as goal

pub returns-clause-some : goal.returns-clause-some
returns-clause-some c = some_is_next

pub returns-clause-none : goal.returns-clause-none
returns-clause-none c = none_is_next

pub returns-clause-step : goal.returns-clause-step
returns-clause-step c = step_out
