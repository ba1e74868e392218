use Rattle.rcu_core.proofs.Readers.{old_is_awaited}
use Rattle.rcu_core.proofs.laws.old_readers_are_awaited.Goals as goal

pub returns : goal.returns
returns c = old_is_awaited
