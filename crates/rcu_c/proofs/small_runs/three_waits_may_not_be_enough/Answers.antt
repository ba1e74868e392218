use Rattle.std.proofs.Common.{◌∙◌, ℕ, ap}
use Rattle.rcu_node.specs.CpuSet.{listed}
use Rattle.rcu_live.specs.Engine.{Locked}
use Rattle.rcu_live.specs.Numbers.{idle_word}
use Rattle.rcu_live.specs.Runs.{engine_after}
use Rattle.rcu_graph.specs.declared.known.Planned.{Planned}
use Rattle.rcu_c.specs.Answers.{left_of}
use Rattle.rcu_c.specs.BarrierSteps.{step_answer, whole_step}
use Rattle.rcu_c.proofs.small_runs.three_waits_may_not_be_enough.Goals as goal

waited : Locked Planned ℕ → Locked Planned ℕ
waited e = engine_after e (whole_step e (λ _. idle_word))

pub returns : goal.returns
unfolding listed waited
returns c = λ identity table requests plan last value e second third is once twice.
    ap (λ x. left_of (step_answer x (λ _. idle_word)))
    (twice ∙ ap waited (once ∙ ap waited is))
