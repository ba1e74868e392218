use Rattle.rcu_node.proofs.Heard.{unheard-merged, reports-merged}
use Rattle.rcu_node.proofs.laws.merging_hears_what_the_other_heard.Goals as goal

pub returns-clause-heard : goal.returns-clause-heard
returns-clause-heard c = unheard-merged

pub returns-clause-reports : goal.returns-clause-reports
returns-clause-reports c = reports-merged
