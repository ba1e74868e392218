use Rattle.std.proofs.Common.{[], ◌∷◌, subst}
use Rattle.rcu_core.specs.History.{History}
use Rattle.rcu_core.specs.Progress.{SurelyLeads}
use Rattle.rcu_core.specs.declared.event.Event.TheVariants.{End}
use Rattle.rcu_script.proofs.EndedLines.{end_printed, last_after}
use Rattle.rcu_script.proofs.script.laws.an_end_after_last_is_printed_ended.Goals as goal

pub returns : goal.returns
returns c =
    λ size before telling ending told text event at_last at_end end first asks second ends third.
    let last = last_after size before telling told event at_last at_end first asks second in
    end_printed size ending text at_end end
    (subst (λ (h : History). SurelyLeads size h (End ∷ []) (End ∷ h)) last.reached
    (c.the_last_report_lets_a_grace_period_end.ensures size last.run event last.legal))
    ends third
