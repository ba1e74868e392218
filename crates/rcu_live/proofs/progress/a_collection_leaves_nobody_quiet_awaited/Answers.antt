use Rattle.rcu_live.proofs.Quieting.{end_accepted, left_awaited, nobody_left}
use Rattle.rcu_live.proofs.progress.a_collection_leaves_nobody_quiet_awaited.Goals as goal

pub returns-clause-left : goal.returns-clause-left
returns-clause-left g c = left_awaited

pub returns-clause-nobody : goal.returns-clause-nobody
returns-clause-nobody g c = nobody_left

pub returns-clause-accepted : goal.returns-clause-accepted
returns-clause-accepted g c = end_accepted
