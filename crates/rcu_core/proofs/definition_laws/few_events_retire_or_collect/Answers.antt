use Rattle.rcu_core.proofs.StepKinds.{collected_by, retired_by}
use Rattle.rcu_core.proofs.definition_laws.few_events_retire_or_collect.Goals as goal

pub returns-clause-retires : goal.returns-clause-retires
returns-clause-retires c = retired_by

pub returns-clause-collects : goal.returns-clause-collects
returns-clause-collects c = collected_by
