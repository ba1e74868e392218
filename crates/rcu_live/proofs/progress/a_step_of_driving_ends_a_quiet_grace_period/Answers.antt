use Rattle.rcu_live.proofs.Quieting.{drive_counts, drive_ends, drive_says}
use Rattle.rcu_live.proofs.progress.a_step_of_driving_ends_a_quiet_grace_period.Goals as goal

pub returns-clause-once : goal.returns-clause-once
returns-clause-once g c = drive_counts

pub returns-clause-ended : goal.returns-clause-ended
returns-clause-ended g c = drive_ends

pub returns-clause-answer : goal.returns-clause-answer
returns-clause-answer g c = drive_says
