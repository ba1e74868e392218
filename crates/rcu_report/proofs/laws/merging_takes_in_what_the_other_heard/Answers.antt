use Rattle.rcu_report.proofs.Histories.{hears_the_heard}
use Rattle.rcu_report.proofs.laws.merging_takes_in_what_the_other_heard.Goals as goal

pub returns : goal.returns
returns c = hears_the_heard
