use Rattle.rcu_core.proofs.Queueing.{as_many_values, handed_was_queued}
use Rattle.rcu_core.proofs.run_laws.handed_callbacks_were_queued.Goals as goal

pub returns-clause-length : goal.returns-clause-length
returns-clause-length c = as_many_values

pub returns-clause-queued : goal.returns-clause-queued
returns-clause-queued c = handed_was_queued
