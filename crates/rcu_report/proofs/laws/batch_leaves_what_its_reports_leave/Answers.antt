use Rattle.rcu_report.proofs.Batches.{batch_leaves-reports}
use Rattle.rcu_report.proofs.laws.batch_leaves_what_its_reports_leave.Goals as goal

pub returns : goal.returns
returns c = batch_leaves-reports
