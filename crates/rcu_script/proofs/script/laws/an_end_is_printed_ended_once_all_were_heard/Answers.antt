use Rattle.std.proofs.Common.{◌≡◌, ◌∙◌, ◌<◌, ℕ, true, [], ◌∷◌, ap, subst, sym}
use Rattle.rcu_core.specs.History.{History, running}
use Rattle.rcu_core.specs.Links.{ToldSince, starts, tag}
use Rattle.rcu_core.specs.Progress.{SurelyLeads}
use Rattle.rcu_core.specs.Replies.{Size}
use Rattle.rcu_core.specs.declared.event.Event.TheVariants.{End}
use Rattle.rcu_script.proofs.EndedLines.{end_printed}
use Rattle.rcu_script.proofs.ScriptRunLemmas.{lines_from_first}
use Rattle.rcu_script.proofs.script.laws.an_end_is_printed_ended_once_all_were_heard.Goals as goal

abbrev AllHeard : Size → History → Type 0
AllHeard size h =
    (cpu : ℕ) → cpu < size.cpus → starts cpu h ≡ true → ToldSince cpu (tag h) h

pub returns : goal.returns
returns c =
    λ size before ending told text at_end end first runs heard ends second.
    let start = lines_from_first size before told at_end first in
    end_printed size ending text at_end end
    (subst (λ (h : History). SurelyLeads size h (End ∷ []) (End ∷ h)) start.reached
    (c.heard_processors_let_a_grace_period_end.ensures size start.run start.legal
    (ap (λ (h : History). running h) start.reached ∙ runs)
    (subst (λ (h : History). AllHeard size h) (sym start.reached) heard)))
    ends second
