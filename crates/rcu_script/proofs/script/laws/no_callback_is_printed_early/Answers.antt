use Rattle.std.proofs.Common.{◌∙◌, sym, ap, get_or}
use Rattle.std.specs.Prelude.{slice_get}
use Rattle.std.proofs.lemmas.Option.{slice_get-get_or}
use Rattle.rcu_core.specs.Callbacks.{handed_out, has_full_period, since}
use Rattle.rcu_core.specs.History.{History}
use Rattle.rcu_script.proofs.CallbackLines.{ran_after}
use Rattle.rcu_script.proofs.script.laws.no_callback_is_printed_early.Goals as goal

pub returns-clause-values : goal.returns-clause-values
returns-clause-values c =
    λ size before running told text more cpu most at_run end first asks second begins.
    (ran_after size before running told text more cpu most at_run end first asks second
    begins).tells

pub returns-clause-late : goal.returns-clause-late
returns-clause-late c =
    λ size before running told text more cpu most at_run end first asks second begins place d there.
    let ran =
    ran_after size before running told text more cpu most at_run end first asks second begins in
    let call = get_or (handed_out cpu most at_run) place d in
    let early = c.no_callback_runs_early.ensures size ran.run cpu most place _ call ran.legal
    (ap (λ (h : History). slice_get (handed_out cpu most h) place) ran.reached
    ∙ slice_get-get_or (handed_out cpu most at_run) place d there) in
    sym (ap (λ (h : History). has_full_period (since call.ord h)) ran.reached) ∙ early.1
