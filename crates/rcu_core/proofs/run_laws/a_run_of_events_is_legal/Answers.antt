use Rattle.rcu_core.proofs.Longer.{longer_history, longer_is_legal, one_each}
use Rattle.rcu_core.proofs.run_laws.a_run_of_events_is_legal.Goals as goal

pub returns-clause-legal : goal.returns-clause-legal
returns-clause-legal c = longer_is_legal

pub returns-clause-history : goal.returns-clause-history
returns-clause-history c = longer_history

pub returns-clause-each : goal.returns-clause-each
returns-clause-each c = one_each
