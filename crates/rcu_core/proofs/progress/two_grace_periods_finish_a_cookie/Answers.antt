use Rattle.rcu_core.proofs.Finishing.{two_ends_finish}
use Rattle.rcu_core.proofs.progress.two_grace_periods_finish_a_cookie.Goals as goal

pub returns : goal.returns
returns c = two_ends_finish
