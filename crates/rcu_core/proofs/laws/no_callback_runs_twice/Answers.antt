use Rattle.rcu_core.proofs.Once.{no_second_run}
use Rattle.rcu_core.proofs.laws.no_callback_runs_twice.Goals as goal

pub returns : goal.returns
returns c = no_second_run
