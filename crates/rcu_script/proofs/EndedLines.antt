-- If a line of a script was answered `last`, the script's run is one that the law of the last
-- report needs. And `end` is answered `ended` if no fault is legal.
use Rattle.std.proofs.Common.{◌≡◌, ◌≢◌, ◌∙◌, ◌+◌, ℕ, true, false, List, [], ◌∷◌, ◌++◌, refl, sym}
use Rattle.std.proofs.Common.{ap, inl, inr, append-nil, arith, Option, Some, None}
use Rattle.std.specs.Prelude.{nat_eq}
use Rattle.std.proofs.lemmas.Bool.Decides.{nat_tests}
use Rattle.rcu_seq.specs.Numbers.{number_at}
use Rattle.rcu_seq.specs.declared.fault.Fault.{Fault}
use Rattle.rcu_seq.specs.declared.fault.Fault.TheVariants as fault
use Rattle.rcu_node.specs.declared.awaited.Answer.TheVariants as answer
use Rattle.rcu_barrier.specs.declared.lists.Visit.TheVariants as visit
use Rattle.rcu_core.specs.History.{History, ends_in_epoch}
use Rattle.rcu_core.specs.Progress.{SurelyLeads}
use Rattle.rcu_core.specs.Replies.{IsLegalReply, Size, end_reply, fault_in, or_fault, with_event}
use Rattle.rcu_core.specs.Runs.{IsLegalRun, Run, history}
use Rattle.rcu_core.specs.Situation.{situation}
use Rattle.rcu_core.specs.declared.event.Event.{Event}
use Rattle.rcu_core.specs.declared.event.Event.TheVariants as event
use Rattle.rcu_core.specs.declared.reply.Reply.{Reply}
use Rattle.rcu_core.specs.declared.reply.Reply.TheVariants as reply
use Rattle.rcu_text.specs.declared.line_shape.Line.TheVariants.{Ask}
use Rattle.rcu_script.specs.ScriptAnswers.{Answers}
use Rattle.rcu_script.specs.ScriptLines.{asked_by}
use Rattle.rcu_script.specs.ScriptTexts.{text_of}
use Rattle.rcu_script.proofs.CallbackLines.{byte_at, legal_after}
use Rattle.rcu_script.proofs.PolledLemmas.{asked_line}
use Rattle.rcu_script.proofs.ScriptRunLemmas.{lines_from_first}

-- ---- a line that was answered `last`

-- `l` is no other reply's first letter
no_other : {P : Type 0} (byte : ℕ) → nat_eq byte 108 ≡ false → byte ≡ 108 → P
no_other byte differs same = absurd (grind (arith, nat_tests))

last_told : (r : Reply) (x : List ℕ) → text_of r ++ x ≡ text_of (reply.Answer answer.Last)
    → r ≡ reply.Answer answer.Last
last_told (reply.Answer answer.Last) x text = refl
last_told (reply.Depth n) x text = no_other 100 refl (byte_at 0 text)
last_told (reply.Made place report) x text = no_other 114 refl (byte_at 0 text)
last_told reply.Online x text = no_other 111 refl (byte_at 0 text)
last_told (reply.Moved n) x text = no_other 111 refl (byte_at 0 text)
last_told (reply.Begun n cpus) x text = no_other 98 refl (byte_at 0 text)
last_told (reply.Ended n) x text = no_other 101 refl (byte_at 0 text)
last_told (reply.Waiting n) x text = no_other 119 refl (byte_at 0 text)
last_told reply.Nothing x text = no_other 110 refl (byte_at 0 text)
last_told (reply.Cookie cookie) x text = no_other 99 refl (byte_at 0 text)
last_told (reply.Queued n) x text = no_other 113 refl (byte_at 0 text)
last_told (reply.Tended n m) x text = no_other 116 refl (byte_at 0 text)
last_told reply.BarBegun x text = no_other 98 refl (byte_at 0 text)
last_told reply.BarDone x text = no_other 98 refl (byte_at 0 text)
last_told (reply.BarWaits n) x text = no_other 98 refl (byte_at 0 text)
last_told (reply.Renumbered n) x text = no_other 101 refl (byte_at 0 text)
last_told reply.Idle x text = no_other 105 refl (byte_at 0 text)
last_told reply.Awake x text = no_other 97 refl (byte_at 0 text)
last_told (reply.Fault f) x text = no_other 102 refl (byte_at 0 text)
last_told (reply.Answer answer.Taken) x text = no_other 116 refl (byte_at 0 text)
last_told (reply.Answer answer.Repeat) x text = no_other 114 refl (byte_at 0 text)
last_told (reply.Answer answer.Stale) x text = no_other 115 refl (byte_at 0 text)
last_told (reply.Noted n true) x text = no_other 110 refl (byte_at 0 text)
last_told (reply.Noted n false) x text = no_other 110 refl (byte_at 0 text)
last_told (reply.Polled true) x text = no_other 100 refl (byte_at 0 text)
last_told (reply.Polled false) x text = no_other 110 refl (byte_at 0 text)
last_told (reply.Awaits []) x text = no_other 97 refl (byte_at 0 text)
last_told (reply.Awaits (cpu ∷ cpus)) x text = no_other 97 refl (byte_at 0 text)
last_told (reply.Ran []) x text = no_other 114 refl (byte_at 0 text)
last_told (reply.Ran (value ∷ values)) x text = no_other 114 refl (byte_at 0 text)
last_told (reply.Visited visit.Marked) x text = no_other 109 refl (byte_at 0 text)
last_told (reply.Visited visit.Empty) x text = no_other 101 refl (byte_at 0 text)
last_told (reply.Visited visit.Already) x text = no_other 97 refl (byte_at 0 text)

-- a legal run that ends at such an answer
pub record LastAfter (size : Size) (event : Event) (next : History) : Type 0 where
  pub run : Run
  pub legal : IsLegalRun size ((event, reply.Answer answer.Last) ∷ run)
  pub reached : history ((event, reply.Answer answer.Last) ∷ run) ≡ next

pub last_after : (size : Size) (before : List (List ℕ)) (telling told : List ℕ) (e : Event)
    (at_last next : History)
    → Answers size [] before told at_last
    → asked_by telling ≡ Ask e
    → Answers size at_last (telling ∷ []) (text_of (reply.Answer answer.Last)) next
    → LastAfter size e next
last_after size before telling told e at_last next first asks second =
    let start = lines_from_first size before told at_last first in
    let a = asked_line size at_last telling e second.0 second.1 asks second.3 in
    let is = last_told a.0 second.2
    (ap (λ (l : List ℕ). l ++ second.2) (sym a.2) ∙ sym second.4) in
    record {
      run = start.run;
      legal = (legal_after size start.run at_last e a.0 _ start.reached is a.1, start.legal);
      reached =
          ap (λ (g : History). with_event g e (reply.Answer answer.Last)) start.reached
          ∙ ap (λ (r : Reply). with_event at_last e r) (sym is) ∙ sym a.3 ∙ sym second.5.1;
    }

-- ---- an end that is answered

answered : (o : Option Fault) (x : Reply) → ((f : Fault) → or_fault o x ≢ reply.Fault f)
    → or_fault o x ≡ x
answered None x n = refl
answered (Some f) x n = absurd (n f refl)

end_said : (size : Size) (h : History) (r : Reply) → IsLegalReply size (situation h) event.End r
    → ((f : Fault) → r ≢ reply.Fault f)
    → r ≡ reply.Ended (number_at (ends_in_epoch h + 1) false)
end_said size h r (inl is) no_fault =
    is
    ∙ answered (fault_in size (situation h) event.End) (end_reply (situation h))
    (λ f e. no_fault f (is ∙ e))
end_said size h r (inr want) no_fault = absurd (no_fault fault.NoMemory want.2)

-- an end that surely leads on is answered `ended`
pub end_printed : (size : Size) (ending text : List ℕ) (at_end end : History)
    → SurelyLeads size at_end (event.End ∷ []) (event.End ∷ at_end)
    → asked_by ending ≡ Ask event.End
    → Answers size at_end (ending ∷ []) text end
    → text ≡ text_of (reply.Ended (number_at (ends_in_epoch at_end + 1) false))
end_printed size ending text at_end end leads asks second =
    let a = asked_line size at_end ending event.End second.0 second.1 asks second.3 in
    let is = end_said size at_end a.0 a.1 (leads a.0 a.1).0 in
    second.4
    ∙ ap (λ (l : List ℕ). second.0 ++ l) second.5.0
    ∙ append-nil second.0
    ∙ a.2
    ∙ ap text_of is
