use Rattle.rcu_core.proofs.Covered.{earlier_are_handed}
use Rattle.rcu_core.proofs.laws.barrier_covers_earlier_callbacks.Goals as goal

pub returns : goal.returns
returns c = earlier_are_handed
