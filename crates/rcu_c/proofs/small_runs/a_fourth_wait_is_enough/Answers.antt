use Rattle.std.proofs.Common.{[], ◌∷◌, ◌∙◌, ◌≤◌, ◌<◌, ℕ, List, zero, suc, ap, arith, length}
use Rattle.std.proofs.Common.{refl}
use Rattle.atomic_table.specs.Seated.{TableId}
use Rattle.rcu_node.specs.CpuSet.{listed}
use Rattle.rcu_cblist.specs.SegList.{callbacks, front}
use Rattle.rcu_barrier.specs.Lists.{list_of}
use Rattle.rcu_live.specs.Engine.{Locked}
use Rattle.rcu_live.specs.Numbers.{idle_word}
use Rattle.rcu_live.specs.Runs.{Begin, Call, Queue, engine_after}
use Rattle.rcu_graph.specs.declared.known.Planned.{Planned}
use Rattle.rcu_graph.specs.declared.plan.Plan.{Plan}
use Rattle.rcu_c.specs.Answers.{left_of}
use Rattle.rcu_c.specs.BarrierSteps.{step_answer, whole_step}
use Rattle.rcu_c.specs.Engines.{opened_at_first}
use Rattle.rcu_c.specs.Progress.{runs}
use Rattle.rcu_c.specs.declared.identity.Identity.{Identity}
use Rattle.rcu_c.proofs.small_runs.a_fourth_wait_is_enough.Goals as goal

waited : Locked Planned ℕ → Locked Planned ℕ
waited e = engine_after e (whole_step e (λ _. idle_word))

calls : ℕ → List (Call ℕ)
calls value = Queue 0 value ∷ Begin (λ _. 1) ∷ []

module _ (identity : Identity) (table requests : TableId) (plan : Plan) (last value : ℕ) where
  first : Locked Planned ℕ
  first = (opened_at_first identity table requests plan 1 last).engine

  rest : Locked Planned ℕ
  rest = waited (waited (waited (engine_after first (calls value))))

  enough : (cpu : ℕ) → cpu < 1 → length (callbacks (front (list_of rest.grace.lists cpu))) ≤ 1
  unfolding listed waited calls first rest
  enough zero l = omega arith
  enough (suc cpu) l = absurd (omega (arith, l))

pub returns : goal.returns
unfolding listed waited calls first rest
returns c = λ identity table requests plan last value e second third fourth is once twice thrice.
    let o = first identity table requests plan last value in
    let b = engine_after o (calls value) in
    let r = rest identity table requests plan last value in
    let leads = c.a_wait_leads_on_while_its_barrier_runs.ensures in
    let goes = λ (x : Locked Planned ℕ). leads.waited x (λ _. idle_word) in
    ap (λ x. left_of (step_answer (engine_after x (runs (λ _. 1) 1)) (λ _. idle_word)))
    (thrice ∙ ap waited (twice ∙ ap waited (once ∙ ap waited is)))
    ∙ c.the_fourth_wait_for_a_barrier_writes_0.ensures o b (waited b) (waited (waited b)) r
    (engine_after r (runs (λ _. 1) 1)) (calls value) (λ _. idle_word) (λ _. idle_word)
    (λ _. idle_word) (λ _. idle_word) refl (omega arith, (refl, tt)) refl (λ _. refl)
    (goes b refl) (λ _. refl) (goes (waited b) refl) (goes (waited (waited b)) refl)
    (leads.handed_out r (λ _. 1) (enough identity table requests plan last value) refl)
