use Rattle.rcu_core.proofs.Ending.{run_can_end}
use Rattle.rcu_core.proofs.progress.a_grace_period_can_end.Goals as goal

pub returns : goal.returns
returns c = run_can_end
