use Rattle.rcu_defer.proofs.Waits.{done_has_waited, full_between}
use Rattle.rcu_defer.proofs.laws.no_value_comes_early.Goals as goal

pub returns-clause-waited : goal.returns-clause-waited
returns-clause-waited g c = λ calls k low. done_has_waited calls k low

pub returns-clause-period : goal.returns-clause-period
returns-clause-period g c = λ calls k waited first turns within accepted start still at now.
    full_between first turns
    (c.done_means_a_full_grace_period.ensures first turns within accepted) start still
    (rw at (rw now waited.reached))
