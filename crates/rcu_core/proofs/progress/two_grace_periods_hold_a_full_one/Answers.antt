use Rattle.rcu_core.proofs.Finishing.{two_hold_full}
use Rattle.rcu_core.proofs.progress.two_grace_periods_hold_a_full_one.Goals as goal

pub returns-clause-two : goal.returns-clause-two
returns-clause-two c = two_hold_full
