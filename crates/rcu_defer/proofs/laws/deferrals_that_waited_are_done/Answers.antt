use Rattle.rcu_defer.proofs.Late.{waited_is_done}
use Rattle.rcu_defer.proofs.laws.deferrals_that_waited_are_done.Goals as goal

pub returns : goal.returns
returns g c = λ calls k never waited. waited_is_done calls k never waited
