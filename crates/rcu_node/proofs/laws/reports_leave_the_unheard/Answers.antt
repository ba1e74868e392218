use Rattle.rcu_node.proofs.Heard.{after_reports-unheard}
use Rattle.rcu_node.proofs.laws.reports_leave_the_unheard.Goals as goal

pub returns : goal.returns
returns c = after_reports-unheard
