use Rattle.rcu_core.proofs.Shortest.{shortest}
use Rattle.rcu_core.proofs.StepKinds.{three_retire, two_collect}
use Rattle.rcu_core.proofs.definition_laws.a_grace_period_ends_by_its_steps.Goals as goal

pub returns-clause-retired : goal.returns-clause-retired
returns-clause-retired c = three_retire

pub returns-clause-collected : goal.returns-clause-collected
returns-clause-collected c = two_collect

pub returns-clause-fewer : goal.returns-clause-fewer
returns-clause-fewer c = shortest
