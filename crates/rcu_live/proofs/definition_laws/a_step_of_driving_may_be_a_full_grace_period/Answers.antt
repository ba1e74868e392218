use Rattle.std.proofs.Common.{refl}
use Rattle.rcu_node.specs.CpuSet.{listed}
use Rattle.rcu_live.proofs.definition_laws.a_step_of_driving_may_be_a_full_grace_period.Goals
    as goal

pub returns-clause-idle : goal.returns-clause-idle
unfolding listed
returns-clause-idle g c = λ known table last most value. refl

pub returns-clause-awaited : goal.returns-clause-awaited
unfolding listed
returns-clause-awaited g c = λ known table last most value. refl
