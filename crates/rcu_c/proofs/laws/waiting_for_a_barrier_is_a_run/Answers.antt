use Rattle.rcu_c.proofs.BarrierLaws.{ready_is_a_run, step_is_a_run, visits_are_a_run}
use Rattle.rcu_c.proofs.laws.waiting_for_a_barrier_is_a_run.Goals as goal

pub returns : goal.returns
returns c = record { whole = step_is_a_run; ready = ready_is_a_run; part = visits_are_a_run }
