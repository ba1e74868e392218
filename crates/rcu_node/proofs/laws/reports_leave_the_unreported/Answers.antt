use Rattle.rcu_node.proofs.ReportLemmas.{unreported}
use Rattle.rcu_node.proofs.laws.reports_leave_the_unreported.Goals as goal

pub returns : goal.returns
returns c = unreported
