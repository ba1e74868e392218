use Rattle.rcu_live.proofs.Early.{has_waited}
use Rattle.rcu_live.proofs.Elapsed.{period_passed}
use Rattle.rcu_live.proofs.ListRuns.{handed_was_queued}
use Rattle.rcu_live.proofs.laws.no_callback_runs_early.Goals as goal

pub returns-clause-queued : goal.returns-clause-queued
returns-clause-queued g c = λ first calls cpu most at handed new is.
    handed_was_queued first calls at new cpu most handed
    (λ all run. c.handed_callbacks_were_queued.ensures all run cpu most at handed) is

pub returns-clause-waited : goal.returns-clause-waited
returns-clause-waited g c =
    λ first calls cpu most at handed new is. has_waited first calls cpu most at handed new

pub returns-clause-period : goal.returns-clause-period
returns-clause-period g c = λ first calls cpu most at handed new is there.
    period_passed first calls handed.ord handed is
    (returns-clause-queued g c first calls cpu most at handed new is there)
    (has_waited first calls cpu most at handed new there)
