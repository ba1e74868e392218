use Rattle.rcu_live.proofs.Quieting.{call_shrinks, run_shrinks}
use Rattle.rcu_live.proofs.progress.awaited_processors_only_shrink.Goals as goal

pub returns-clause-one : goal.returns-clause-one
returns-clause-one g c = call_shrinks

pub returns-clause-many : goal.returns-clause-many
returns-clause-many g c = run_shrinks
