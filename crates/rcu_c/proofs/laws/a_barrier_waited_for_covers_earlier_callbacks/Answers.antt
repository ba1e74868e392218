use Rattle.std.proofs.Common.{◌≡◌, ◌∙◌, ◌++◌, ap}
use Rattle.std.specs.Prelude.{if◌then◌else◌}
use Rattle.rcu_live.specs.Runs.{engine_after, queued_before_barrier}
use Rattle.rcu_c.specs.BarrierSteps.{after_driving, whole_step}
use Rattle.rcu_c.proofs.BarrierLaws.{done_by_step, queued_by_step, step_is_a_run}
use Rattle.rcu_c.proofs.laws.a_barrier_waited_for_covers_earlier_callbacks.Goals as goal

pub returns-clause-begun : goal.returns-clause-begun
returns-clause-begun c = λ first calls word none. queued_by_step first calls word
    ∙ ap (λ b. if b then queued_before_barrier first calls
    else (engine_after first calls).grace.lists.queued) none

pub returns-clause-joined : goal.returns-clause-joined
returns-clause-joined c = λ first calls word runs. queued_by_step first calls word
    ∙ ap (λ b. if b then queued_before_barrier first calls
    else (engine_after first calls).grace.lists.queued) runs

pub returns-clause-covered : goal.returns-clause-covered
returns-clause-covered c = λ first calls word place new run none some inside.
    let e = engine_after first calls in
    c.barrier_covers_earlier_callbacks.ensures first (after_driving e word ++ calls) place new
    (c.a_run_goes_on_from_the_end_of_another.ensures.run first calls (whole_step e word) run
    (step_is_a_run e word))
    (done_by_step first calls word none) some inside
