use Rattle.rcu_core.proofs.LastAnswer.{last_lets_end}
use Rattle.rcu_core.proofs.progress.the_last_report_lets_a_grace_period_end.Goals as goal

pub returns : goal.returns
returns c = last_lets_end
