use Rattle.rcu_seq.specs.Seq.{number_of}
use Rattle.rcu_live.proofs.Quieting.{drive_says}
use Rattle.rcu_live.proofs.QuietSeats.{held_up, quiet_ends, quiet_reports}
use Rattle.rcu_live.proofs.progress.quiet_processors_end_a_grace_period.Goals as goal

pub returns-clause-ended : goal.returns-clause-ended
returns-clause-ended g c =
    λ plan e wanted word at runs load quiet.
    quiet_ends e wanted word runs (λ cpu awaited.
    quiet_reports (g.P.Client.holds plan) e.cpus (at cpu) (number_of e.grace.seq) cpu (word cpu)
    (load cpu awaited) (quiet cpu awaited))

pub returns-clause-answer : goal.returns-clause-answer
returns-clause-answer g c =
    λ plan e wanted word at runs load quiet.
    drive_says e wanted word runs (λ cpu awaited.
    quiet_reports (g.P.Client.holds plan) e.cpus (at cpu) (number_of e.grace.seq) cpu (word cpu)
    (load cpu awaited) (quiet cpu awaited))

pub returns-clause-held_up : goal.returns-clause-held_up
returns-clause-held_up g c =
    λ plan now e wanted word cpu runs load awaited quiet.
    held_up (g.P.Client.holds plan) now e wanted word cpu runs load awaited quiet
