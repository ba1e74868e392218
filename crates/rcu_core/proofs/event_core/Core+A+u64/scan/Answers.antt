use Rattle.std.proofs.Common.{◌≡◌, ℕ, None, refl, sym, subst, ap, ◌∙◌, slice_index_or}
use Rattle.rcu_core.specs.Core.{State, cpu_refusal}
use Rattle.rcu_core.proofs.Sound.{at_place}
use Rattle.rcu_core.proofs.Steps.{along, does_scan, found_below, scan_accepted}
use Rattle.rcu_core.proofs.event_core.Core+A+u64.scan.Goals as goal

pub returns : goal.returns
returns g c =
    let v : State ℕ = record {
      grace = c.self.inside.gp.grace;
      cpus = c.self.inside.cpus.items;
      made = c.self.inside.reports.items;
    } in
    let found = c.in_ok-at.ensures in
    let at = ap (λ n. slice_index_or c.self.inside.cpus.items n c.index.result.now) found.index in
    let there = found_below v c.args.cpu
    (subst (λ (u : State ℕ). cpu_refusal u c.args.cpu ≡ None) (sym c.self.view_is)
    (sym found.fault)) in
    let here =
    at_place v c.args.cpu c.index.result.now c.self.invariant.sound there (c.index.ensures ∙ at) in
    let online = sym c.online.ensures ∙ c.if-not-online.false in
    let idle = sym c.is_idle.ensures.value ∙ c.if-not-is_idle.false in
    along _ _ _ _ _ c.self.view_is (does_scan v _ c.args.cpu _
    (scan_accepted v c.args.cpu c.index.result.now there online here idle)
    c.report_now.ensures.answer (rw c.report_now.ensures.state refl))
