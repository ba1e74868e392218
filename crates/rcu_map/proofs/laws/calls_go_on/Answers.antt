use Rattle.rcu_map.proofs.Listings.{go_on_further}
use Rattle.rcu_map.proofs.laws.calls_go_on.Goals as goal

pub returns : goal.returns
returns c = go_on_further
