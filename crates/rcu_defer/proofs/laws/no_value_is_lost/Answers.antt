use Rattle.rcu_defer.proofs.Orders.{in_order}
use Rattle.rcu_defer.proofs.laws.no_value_is_lost.Goals as goal

pub returns : goal.returns
returns g c = λ calls. in_order calls
