use Rattle.rcu_report.proofs.Histories.{alike_await_the_same}
use Rattle.rcu_report.proofs.laws.equally_heard_replicas_await_the_same.Goals as goal

pub returns : goal.returns
returns c = alike_await_the_same
