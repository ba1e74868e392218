use Rattle.rcu_c.proofs.DriveEnds.{awaited_then, done_then, drive_accepted, number_then, seq_then}
use Rattle.rcu_c.proofs.DriveEnds.{told_then}
use Rattle.rcu_c.proofs.progress.a_drive_ends_a_quiet_grace_period.Goals as goal

pub returns-clause-accepted : goal.returns-clause-accepted
returns-clause-accepted c = drive_accepted

pub returns-clause-ended : goal.returns-clause-ended
returns-clause-ended c = λ rcu now word is runs told. seq_then rcu now word is runs told

pub returns-clause-nobody : goal.returns-clause-nobody
returns-clause-nobody c = λ rcu now word is runs told. awaited_then rcu now word is runs told

pub returns-clause-turn : goal.returns-clause-turn
returns-clause-turn c = λ rcu now word is runs told. told_then rcu now word is runs told

pub returns-clause-number : goal.returns-clause-number
returns-clause-number c = λ rcu now word is runs told. number_then rcu now word is runs told

pub returns-clause-done : goal.returns-clause-done
returns-clause-done c =
    λ rcu now word cookie is runs told. done_then rcu now word is runs told cookie
