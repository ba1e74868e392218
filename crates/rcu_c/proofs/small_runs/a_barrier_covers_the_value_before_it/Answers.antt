use Rattle.std.proofs.Common.{rules, refl, arith, true, [], ◌∷◌}
use Rattle.rcu_node.specs.CpuSet.{listed}
use Rattle.rcu_live.specs.Numbers.{idle_word}
use Rattle.rcu_live.specs.Runs.{BarrierBegin, Drive, Queue, Run, Tend, Visit}
use Rattle.rcu_c.specs.Engines.{opened_at_first}
use Rattle.rcu_c.proofs.small_runs.a_barrier_covers_the_value_before_it.Goals as goal

-- the test after these calls is allowed, and answers done
pub returns : goal.returns
unfolding listed
returns c = λ identity table requests plan last value.
    c.barrier_covers_earlier_callbacks.ensures
    (opened_at_first identity table requests plan 1 last).engine
    (Run 0 1 ∷ Tend 0 ∷ Drive true (λ _. idle_word) ∷ Tend 0 ∷ Visit 0 ∷ BarrierBegin
    ∷ Queue 0 value ∷ [])
    1 (search rules) (search rules) refl (omega arith) (omega arith)
