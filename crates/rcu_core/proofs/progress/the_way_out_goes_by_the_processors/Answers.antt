use Rattle.rcu_core.proofs.WayListed.{listed_way}
use Rattle.rcu_core.proofs.progress.the_way_out_goes_by_the_processors.Goals as goal

pub returns : goal.returns
returns c = listed_way
