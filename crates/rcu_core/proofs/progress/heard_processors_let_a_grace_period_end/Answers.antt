use Rattle.rcu_core.proofs.Ending.{heard_can_end}
use Rattle.rcu_core.proofs.progress.heard_processors_let_a_grace_period_end.Goals as goal

pub returns : goal.returns
returns c = heard_can_end
