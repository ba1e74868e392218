use Rattle.std.proofs.Common.{refl}
use Rattle.rcu_node.specs.CpuSet.{listed}
use Rattle.rcu_c.proofs.small_runs.one_grace_period_may_not_be_enough.Goals as goal

pub returns : goal.returns
unfolding listed
returns c = λ identity table requests plan last value. refl
