use Rattle.rcu_core.proofs.Queueing.{readers_are_after, readers_are_later}
use Rattle.rcu_core.proofs.run_laws.readers_finish_before_callbacks.Goals as goal

pub returns-clause-later : goal.returns-clause-later
returns-clause-later c = readers_are_later

pub returns-clause-after : goal.returns-clause-after
returns-clause-after c = readers_are_after
