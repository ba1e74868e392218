use Rattle.rcu_core.proofs.Quieting.{no_longer_way}
use Rattle.rcu_core.proofs.progress.only_enters_and_wakes_lengthen_the_way.Goals as goal

pub returns : goal.returns
returns c = no_longer_way
