use Rattle.rcu_report.proofs.Histories.{kept_always, says_always}
use Rattle.rcu_report.proofs.laws.replica_is_as_its_history_says.Goals as goal

pub returns : goal.returns
returns c = record { says = says_always; kept = kept_always }
