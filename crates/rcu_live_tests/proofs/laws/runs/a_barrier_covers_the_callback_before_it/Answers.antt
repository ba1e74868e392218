use Rattle.std.proofs.Common.{rules, refl, arith}
use Rattle.rcu_node.specs.CpuSet.{listed}
use Rattle.rcu_live.specs.Opening.{engine_at_first}
use Rattle.rcu_live_tests.specs.SmallRuns.{under_a_barrier}
use Rattle.rcu_live_tests.proofs.laws.runs.a_barrier_covers_the_callback_before_it.Goals as goal

-- the test after these calls may be made, and says done
pub returns : goal.returns
unfolding listed
returns g c = λ known table last most value.
    c.barrier_covers_earlier_callbacks.ensures (engine_at_first table 1 last most known)
    (under_a_barrier value) 1 (search rules) (search rules) refl (omega arith) (omega arith)
