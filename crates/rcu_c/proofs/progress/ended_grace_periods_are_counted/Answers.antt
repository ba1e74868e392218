use Rattle.std.proofs.Common.{◌∙◌, ap}
use Rattle.rcu_live.specs.Drive.{wants_begin}
use Rattle.rcu_c.specs.Holding.{engine_of, grace_of}
use Rattle.rcu_c.proofs.DriveEnds.{ended_counts}
use Rattle.rcu_c.proofs.Driven.{ends_go_up}
use Rattle.rcu_c.proofs.progress.ended_grace_periods_are_counted.Goals as goal

pub returns-clause-counted : goal.returns-clause-counted
returns-clause-counted c = λ rcu now word is told. ap (λ h. (grace_of h).seq.ends) is
    ∙ ended_counts (engine_of rcu) (wants_begin (grace_of rcu)) word told

pub returns-clause-kept : goal.returns-clause-kept
returns-clause-kept c = λ e calls is. ends_go_up e calls is
