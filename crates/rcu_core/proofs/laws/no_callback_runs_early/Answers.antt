use Rattle.rcu_core.proofs.Waited.{no_early_run}
use Rattle.rcu_core.proofs.laws.no_callback_runs_early.Goals as goal

pub returns : goal.returns
returns c = no_early_run
