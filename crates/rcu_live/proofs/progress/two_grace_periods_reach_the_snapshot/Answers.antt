use Rattle.rcu_live.proofs.Quieting.{two_ends_reach}
use Rattle.rcu_live.proofs.progress.two_grace_periods_reach_the_snapshot.Goals as goal

pub returns-clause-reached : goal.returns-clause-reached
returns-clause-reached g c = two_ends_reach
