use Rattle.rcu_live.proofs.QuietSeats.{only_quiet_reports, quiet_reports, what_is_stored}
use Rattle.rcu_live.proofs.progress.a_load_finds_what_the_seat_stored.Goals as goal

pub returns-clause-stored : goal.returns-clause-stored
returns-clause-stored g c =
    λ plan cpus now running cpu word id seat load here role own.
    what_is_stored (g.P.Client.holds plan) cpus now running cpu word load id seat here role own

pub returns-clause-quiet : goal.returns-clause-quiet
returns-clause-quiet g c =
    λ plan cpus now running cpu word load quiet.
    quiet_reports (g.P.Client.holds plan) cpus now running cpu word load quiet

pub returns-clause-only : goal.returns-clause-only
returns-clause-only g c =
    λ plan cpus now running cpu word id seat load here role own told.
    only_quiet_reports (g.P.Client.holds plan) cpus now running cpu word load id seat here role own
    told
