use Rattle.rcu_core.proofs.Ending.{quiet_can_end}
use Rattle.rcu_core.proofs.progress.quiet_processors_end_a_grace_period.Goals as goal

pub returns : goal.returns
returns c = quiet_can_end
