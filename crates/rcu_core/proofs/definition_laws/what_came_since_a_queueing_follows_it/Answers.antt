use Rattle.rcu_core.proofs.SinceQueueing.{queued_at}
use Rattle.rcu_core.proofs.definition_laws.what_came_since_a_queueing_follows_it.Goals as goal

pub returns : goal.returns
returns c = queued_at
