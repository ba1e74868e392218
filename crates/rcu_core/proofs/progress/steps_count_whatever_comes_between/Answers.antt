use Rattle.rcu_core.proofs.Quieting.{useful_steps_count, useful_steps_end}
use Rattle.rcu_core.proofs.progress.steps_count_whatever_comes_between.Goals as goal

pub returns-clause-left : goal.returns-clause-left
returns-clause-left c = useful_steps_count

pub returns-clause-end : goal.returns-clause-end
returns-clause-end c = useful_steps_end
