use Rattle.rcu_core.proofs.Finishing.{done_is_full}
use Rattle.rcu_core.proofs.progress.a_full_grace_period_finishes_a_cookie.Goals as goal

pub returns : goal.returns
returns c = done_is_full
