use Rattle.rcu_core.proofs.Finishing.{begins_alone, begins_renumbered}
use Rattle.rcu_core.proofs.progress.a_grace_period_can_begin.Goals as goal

pub returns-clause-below : goal.returns-clause-below
returns-clause-below c = begins_alone

pub returns-clause-renumbered : goal.returns-clause-renumbered
returns-clause-renumbered c = begins_renumbered
