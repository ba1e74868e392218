use Rattle.std.proofs.Common.{◌≤◌, ◌∙◌, sym, ap, subst}
use Rattle.rcu_core.specs.Callbacks.{queued_before_barrier, times_handed_out}
use Rattle.rcu_core.specs.History.{History}
use Rattle.rcu_script.proofs.CallbackLines.{done_after}
use Rattle.rcu_script.proofs.script.laws.a_barrier_printed_done_covers_earlier_callbacks.Goals
    as goal

pub returns : goal.returns
returns c = λ size before testing told ord at_test end first asks second some queued_before.
    let done = done_after size before testing told at_test end first asks second in
    let all = c.barrier_covers_earlier_callbacks.ensures size done.run ord done.legal some
    (subst (λ (h : History). ord ≤ queued_before_barrier h) (sym done.reached) queued_before) in
    sym (ap (times_handed_out ord) done.reached) ∙ all
