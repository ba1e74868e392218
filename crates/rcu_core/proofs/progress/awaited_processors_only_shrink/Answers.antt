use Rattle.rcu_core.proofs.Shrinking.{counts_shrink, shrinks, shrinks_one}
use Rattle.rcu_core.proofs.progress.awaited_processors_only_shrink.Goals as goal

pub returns-clause-one : goal.returns-clause-one
returns-clause-one c = shrinks_one

pub returns-clause-many : goal.returns-clause-many
returns-clause-many c = shrinks

pub returns-clause-count : goal.returns-clause-count
returns-clause-count c = counts_shrink
