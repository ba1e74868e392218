use Rattle.rcu_core.proofs.SinceQueueing.{before_kept}
use Rattle.rcu_core.proofs.definition_laws.a_barrier_counts_what_was_queued_before_it.Goals as goal

pub returns-clause-kept : goal.returns-clause-kept
returns-clause-kept c = before_kept
