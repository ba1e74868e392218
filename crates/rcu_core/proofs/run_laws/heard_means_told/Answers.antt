use Rattle.rcu_core.proofs.Heard.{heard_is_told, told_is_heard}
use Rattle.rcu_core.proofs.run_laws.heard_means_told.Goals as goal

pub returns-clause-told : goal.returns-clause-told
returns-clause-told c = heard_is_told

pub returns-clause-heard : goal.returns-clause-heard
returns-clause-heard c = told_is_heard
