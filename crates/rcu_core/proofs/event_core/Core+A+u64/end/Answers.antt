use Rattle.std.proofs.Common.{ℕ, ◌∙◌, ap, refl, sym}
use Rattle.std.proofs.lemmas.Result.{err_from_is_err_and}
use Rattle.rcu_seq.specs.Seq.{number_of}
use Rattle.rcu_state.specs.GpState.{GraceWithRooms}
use Rattle.rcu_core.proofs.Steps.{along, does_end, refuses_end}
use Rattle.rcu_core.proofs.event_core.Core+A+u64.end.Goals as goal

pub returns-in_err-end : goal.returns-in_err-end
returns-in_err-end g c =
    let p = err_from_is_err_and c.from_residual.result c.from_residual.ensures.1 in
    let kept = c.in_err-end.ensures.unchanged in
    rw (p.1, p.2)
    (along _ _ _ _ _ c.self.view_is
    (refuses_end _ _ _ (sym c.in_err-end.ensures.fault) (rw kept refl)))

pub returns : goal.returns
returns g c =
    let done = c.in_ok-end.ensures in
    along _ _ _ _ _ c.self.view_is
    (does_end _ _ _ (sym done.fault)
    (done.number ∙ ap (λ (s : GraceWithRooms ℕ). number_of s.grace.seq) done.state)
    (rw done.state refl))
