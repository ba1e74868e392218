use Rattle.std.proofs.Common.{◌∙◌, ℕ, Option, Some, ap, sym}
use Rattle.rcu_core.specs.Core.{says, size_at}
use Rattle.rcu_core.specs.WayOut.{retiring_event_for}
use Rattle.rcu_core.specs.declared.event.Event.TheVariants.{End}
use Rattle.rcu_core.proofs.WayOut.{first_below, first_is, next_found, next_of_history, step_out}
use Rattle.rcu_core.proofs.way_out.Core+A+u64.next_retiring_event.Goals as goal

pub retiring_event_of-requires : goal.retiring_event_of-requires
retiring_event_of-requires g c =
    let first = first_is c.self.inside.gp.grace.processors _ _ _ _ c.awaited.ensures.standing
    c.first_awaited.ensures in
    first_below _ c.args.self.now _ c.in-Some.cpu c.self.view_is first c.in-Some.is

pub returns-in-Some-clause-next : goal.returns-in-Some-clause-next
returns-in-Some-clause-next g c = λ h x.
    let first = first_is c.self.inside.gp.grace.processors _ _ _ _ c.awaited.ensures.standing
    c.first_awaited.ensures in
    let runs = sym c.is_running.ensures ∙ c.if-not-is_running.false in
    let found = c.retiring_event_of.ensures
    ∙ sym (ap (λ (o : Option ℕ). retiring_event_for (says c.args.self.now) o) c.in-Some.is) in
    next_of_history c.args.self.now h (Some c.retiring_event_of.result) x
    (next_found _ c.args.self.now c.first_awaited.result c.retiring_event_of.result c.self.view_is
    first found runs)

pub returns-in-Some-clause-step : goal.returns-in-Some-clause-step
returns-in-Some-clause-step g c = λ h e x i.
    step_out (size_at c.args.self.now) h e x.accepted
    (sym (returns-in-Some-clause-next g c h x) ∙ i)

pub returns-in-None-clause-next : goal.returns-in-None-clause-next
returns-in-None-clause-next g c = λ h x.
    let first = first_is c.self.inside.gp.grace.processors _ _ _ _ c.awaited.ensures.standing
    c.first_awaited.ensures in
    let runs = sym c.is_running.ensures ∙ c.if-not-is_running.false in
    let found = sym
    (ap (λ (o : Option ℕ). retiring_event_for (says c.args.self.now) o) c.in-None.is) in
    next_of_history c.args.self.now h (Some End) x
    (next_found _ c.args.self.now c.first_awaited.result End c.self.view_is first found runs)

pub returns-in-None-clause-step : goal.returns-in-None-clause-step
returns-in-None-clause-step g c = λ h e x i.
    step_out (size_at c.args.self.now) h e x.accepted
    (sym (returns-in-None-clause-next g c h x) ∙ i)
