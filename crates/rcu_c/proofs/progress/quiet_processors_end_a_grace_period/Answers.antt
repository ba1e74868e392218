use Rattle.std.proofs.Common.{ap, sym, ◌∙◌}
use Rattle.rcu_seq.specs.Seq.{number_of}
use Rattle.rcu_node.specs.CpuSet.{is_in}
use Rattle.rcu_live.specs.Drive.{wants_begin}
use Rattle.rcu_live.proofs.QuietSeats.{held_up, quiet_reports}
use Rattle.rcu_c.specs.Belonging.{IsMapKept}
use Rattle.rcu_c.specs.Holding.{engine_of, grace_of}
use Rattle.rcu_c.proofs.DriveEnds.{seq_then, told_then}
use Rattle.rcu_c.proofs.progress.quiet_processors_end_a_grace_period.Goals as goal

pub returns-clause-ended : goal.returns-clause-ended
returns-clause-ended c = λ rcu now word at is runs load quiet.
    seq_then rcu now word is runs (λ cpu awaited.
    quiet_reports (IsMapKept (engine_of rcu).view.client.plan) (engine_of rcu).cpus (at cpu)
    (number_of (grace_of rcu).seq) cpu (word cpu) (load cpu awaited) (quiet cpu awaited))

pub returns-clause-turn : goal.returns-clause-turn
returns-clause-turn c = λ rcu now word at is runs load quiet.
    told_then rcu now word is runs (λ cpu awaited.
    quiet_reports (IsMapKept (engine_of rcu).view.client.plan) (engine_of rcu).cpus (at cpu)
    (number_of (grace_of rcu).seq) cpu (word cpu) (load cpu awaited) (quiet cpu awaited))

pub returns-clause-held_up : goal.returns-clause-held_up
returns-clause-held_up c = λ rcu now word at cpu is runs load awaited quiet.
    held_up (IsMapKept (engine_of rcu).view.client.plan) at (engine_of rcu)
    (wants_begin (grace_of rcu)) word cpu runs load
    (sym (ap (λ h. is_in (grace_of h).processors.awaited cpu) is) ∙ awaited) quiet
