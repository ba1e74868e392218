use Rattle.rcu_core.proofs.StepKinds.{helped_by, hindered_by}
use Rattle.rcu_core.proofs.definition_laws.three_events_take_a_step_and_two_add_one.Goals as goal

pub returns-clause-helps : goal.returns-clause-helps
returns-clause-helps c = helped_by

pub returns-clause-hinders : goal.returns-clause-hinders
returns-clause-hinders c = hindered_by
