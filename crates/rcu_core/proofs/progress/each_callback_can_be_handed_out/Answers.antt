use Rattle.rcu_core.proofs.Draining.{can_drain}
use Rattle.rcu_core.proofs.progress.each_callback_can_be_handed_out.Goals as goal

pub returns : goal.returns
returns c = can_drain
