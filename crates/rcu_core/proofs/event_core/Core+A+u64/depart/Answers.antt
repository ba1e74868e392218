use Rattle.std.proofs.Common.{◌≡◌, ℕ, None, refl, sym, subst}
use Rattle.std.proofs.lemmas.Result.{err_from_is_err_and}
use Rattle.rcu_core.specs.Core.{State, says, size_at}
use Rattle.rcu_core.specs.Replies.{fault_in}
use Rattle.rcu_core.specs.declared.event.Event.TheVariants.{Offline}
use Rattle.rcu_core.proofs.Steps.{along, refuses_move}
use Rattle.rcu_core.proofs.event_core.Core+A+u64.depart.Goals as goal

pub returns-in_err-moved : goal.returns-in_err-moved
returns-in_err-moved g c =
    let p = err_from_is_err_and c.from_residual-in_err-moved.result
    c.from_residual-in_err-moved.ensures.1 in
    let accepted =
    subst (λ (v : State ℕ). fault_in (size_at v) (says v) (Offline c.args.cpu) ≡ None)
    (sym c.self.view_is) (sym c.in_ok-at.ensures.fault) in
    let kept = c.in_err-moved.ensures.unchanged in
    rw (p.1, p.2)
    (along _ _ _ _ _ c.self.view_is
    (refuses_move _ _ c.self.inside.gp.rooms c.args.cpu _ accepted c.in_err-moved.ensures.fault
    (rw kept refl)))
