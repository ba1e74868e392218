use Rattle.rcu_core.proofs.Lost.{no_loss}
use Rattle.rcu_core.proofs.run_laws.no_callback_is_lost.Goals as goal

pub returns : goal.returns
returns c = no_loss
