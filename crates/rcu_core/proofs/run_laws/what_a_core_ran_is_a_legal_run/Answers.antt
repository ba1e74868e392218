use Rattle.rcu_core.proofs.Longer.{ran_legally, ran_one_each, stands_there}
use Rattle.rcu_core.proofs.run_laws.what_a_core_ran_is_a_legal_run.Goals as goal

pub returns-clause-legal : goal.returns-clause-legal
returns-clause-legal c = ran_legally

pub returns-clause-has : goal.returns-clause-has
returns-clause-has c = stands_there

pub returns-clause-each : goal.returns-clause-each
returns-clause-each c = ran_one_each
