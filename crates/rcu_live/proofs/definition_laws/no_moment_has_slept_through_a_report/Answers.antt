use Rattle.rcu_live.proofs.SleptThrough.{is_answered, is_stored, none_from_nowhere}
use Rattle.rcu_live.proofs.SleptThrough.{none_slept_through}
use Rattle.rcu_live.proofs.definition_laws.no_moment_has_slept_through_a_report.Goals as goal

pub returns-clause-stored : goal.returns-clause-stored
returns-clause-stored c = is_stored

pub returns-clause-answered : goal.returns-clause-answered
returns-clause-answered c = is_answered

pub returns-clause-slept_through : goal.returns-clause-slept_through
returns-clause-slept_through c = none_slept_through

pub returns-clause-from_nowhere : goal.returns-clause-from_nowhere
returns-clause-from_nowhere c = none_from_nowhere
