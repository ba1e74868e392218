-- A text without `fault 16` is the one right text.
use Rattle.std.proofs.Common.{◌≡◌, ◌⊎◌, ◌==◌, ◌∙◌, ◌||◌, ℕ, Bool, true, false, List, [], ◌∷◌, ◌++◌}
use Rattle.std.proofs.Common.{length, refl, sym, ap, ap₂, inl, inr, codes, if◌then◌else◌}
use Rattle.std.specs.Prelude.{flat_map}
use Rattle.std.specs.Fmt.{decimal, digits}
use Rattle.std.specs.List.{list_any}
use Rattle.std.specs.Str.{bytes_eq}
use Rattle.std.proofs.lemmas.List.Folds.{list_any-append}
use Rattle.rcu_seq.specs.Fault.{fault_number}
use Rattle.rcu_seq.specs.declared.fault.Fault.TheVariants as fault
use Rattle.rcu_node.specs.declared.awaited.Answer.TheVariants as answer
use Rattle.rcu_barrier.specs.declared.lists.Visit.TheVariants as visit
use Rattle.rcu_core.specs.History.{History}
use Rattle.rcu_core.specs.Replies.{Size, with_event}
use Rattle.rcu_core.specs.declared.event.Event.{Event}
use Rattle.rcu_core.specs.declared.reply.Reply.{Reply}
use Rattle.rcu_core.specs.declared.reply.Reply.TheVariants as reply
use Rattle.rcu_text.specs.Lines.{cut_of}
use Rattle.rcu_text.specs.Texts.{numbered_text, space_and_number}
use Rattle.rcu_text.specs.declared.line_shape.Line.{Line}
use Rattle.rcu_text.specs.declared.line_shape.Line.TheVariants.{Blank, Malformed, Ask}
use Rattle.rcu_text.proofs.CallerLemmas.{cut_append, Closes, closes_behind, closed}
use Rattle.rcu_script.specs.ScriptAnswers.{Answers, AnswersLine, IsAnswer, next_after, replies}
use Rattle.rcu_script.specs.ScriptAnswers.{reply_to, wants_memory}
use Rattle.rcu_script.specs.ScriptLines.{asked_by}
use Rattle.rcu_script.specs.ScriptTexts.{epoch_text, text_of}

-- ---- each line of a reply is ended

closes_number : (word rest : List ℕ) (n : ℕ) → Closes rest → Closes (word ++ (decimal n ++ rest))
closes_number word rest n c =
    closes_behind word (decimal n ++ rest) (closes_behind (decimal n) rest c)

closes_numbered : (text : List ℕ) (n : ℕ) → Closes (numbered_text text n)
closes_numbered text n = closes_number text (codes "\n") n ([], refl)

closes_epoch : (epoch : ℕ) → Closes (epoch_text epoch)
closes_epoch epoch = go (epoch == 0)
  where
    go : (t : Bool) → Closes (if t then codes "\n" else numbered_text (codes " epoch ") epoch)
    go true = ([], refl)
    go false = closes_numbered (codes " epoch ") epoch

pub closes_reply : (r : Reply) → Closes (text_of r)
closes_reply (reply.Depth n) = closes_numbered (codes "depth ") n
closes_reply (reply.Noted n true) =
    closes_number (codes "noted ") (codes " needed\n") n (codes " needed", refl)
closes_reply (reply.Noted n false) =
    closes_number (codes "noted ") (codes " clear\n") n (codes " clear", refl)
closes_reply (reply.Made place report) =
    closes_number (codes "report ") _ place (closes_number (codes " cpu ") _ report.cpu
    (closes_number (codes " tag ") _ report.tag.number (closes_epoch report.tag.epoch)))
closes_reply (reply.Answer answer.Taken) = (codes "taken", refl)
closes_reply (reply.Answer answer.Last) = (codes "last", refl)
closes_reply (reply.Answer answer.Repeat) = (codes "repeat", refl)
closes_reply (reply.Answer answer.Stale) = (codes "stale", refl)
closes_reply reply.Online = (codes "online", refl)
closes_reply (reply.Moved n) = closes_numbered (codes "offline moved ") n
closes_reply (reply.Begun n cpus) =
    closes_number (codes "begun ") _ n
    (closes_number (codes " awaits ") (codes "\n") cpus ([], refl))
closes_reply (reply.Ended n) = closes_numbered (codes "ended ") n
closes_reply (reply.Waiting n) = closes_numbered (codes "waiting ") n
closes_reply reply.Nothing = (codes "nothing", refl)
closes_reply (reply.Awaits []) = (codes "awaits none", refl)
closes_reply (reply.Awaits (cpu ∷ cpus)) =
    closes_behind (codes "awaits") _
    (closes_behind (flat_map space_and_number (cpu ∷ cpus)) (codes "\n") ([], refl))
closes_reply (reply.Cookie c) = closes_number (codes "cookie ") _ c.number (closes_epoch c.epoch)
closes_reply (reply.Polled true) = (codes "done", refl)
closes_reply (reply.Polled false) = (codes "not yet", refl)
closes_reply (reply.Queued n) = closes_numbered (codes "queued ") n
closes_reply (reply.Tended done waiting) =
    closes_number (codes "tended ") _ done
    (closes_number (codes " ") (codes "\n") waiting ([], refl))
closes_reply (reply.Ran []) = (codes "ran none", refl)
closes_reply (reply.Ran (value ∷ values)) =
    closes_behind (codes "ran") _
    (closes_behind (flat_map space_and_number (value ∷ values)) (codes "\n") ([], refl))
closes_reply reply.BarBegun = (codes "barrier begun", refl)
closes_reply (reply.Visited visit.Marked) = (codes "marked", refl)
closes_reply (reply.Visited visit.Empty) = (codes "empty", refl)
closes_reply (reply.Visited visit.Already) = (codes "already", refl)
closes_reply reply.BarDone = (codes "barrier done", refl)
closes_reply (reply.BarWaits n) = closes_numbered (codes "barrier waits ") n
closes_reply (reply.Renumbered epoch) = closes_numbered (codes "epoch ") epoch
closes_reply reply.Idle = (codes "idle", refl)
closes_reply reply.Awake = (codes "awake", refl)
closes_reply (reply.Fault f) = closes_numbered (codes "fault ") (fault_number f)

closed_line : (size : Size) (h : History) (line : Line Event) (text : List ℕ) (next : History)
    → AnswersLine size h line text next → (cut_of text).rest ≡ []
unfolding cut_of
closed_line size h Blank text next a = ap (λ (l : List ℕ). (cut_of l).rest) a.0
closed_line size h Malformed text next a = ap (λ (l : List ℕ). (cut_of l).rest) a.0
    ∙ closed (text_of (reply.Fault fault.BadLine)) (closes_reply (reply.Fault fault.BadLine))
closed_line size h (Ask event) text next a = ap (λ (l : List ℕ). (cut_of l).rest) a.2
    ∙ closed (text_of a.0) (closes_reply a.0)

-- ---- the one text

pub both_false : (a b : Bool) → (a || b) ≡ false → (a ≡ false) × (b ≡ false)
both_false true b h = cc
both_false false b h = (refl, h)

fault_16 : list_any (bytes_eq (codes "fault 16"))
    (cut_of (text_of (reply.Fault fault.NoMemory))).ended
    ≡ true
unfolding cut_of digits
fault_16 = refl

-- a line is answered by the one reply, or by `fault 16`
one_line : (size : Size) (h : History) (line : Line Event) (text : List ℕ) (next : History)
    → AnswersLine size h line text next
    → ((text ≡ reply_to size h line) × (next ≡ next_after size h line))
    ⊎ (text ≡ text_of (reply.Fault fault.NoMemory))
one_line size h Blank text next a = inl a
one_line size h Malformed text next a = inl a
one_line size h (Ask event) text next a = elim a.1 [
  | inl e ↦ inl (a.2 ∙ ap text_of e, a.3 ∙ ap (with_event h event) e)
  | inr e ↦ inr (a.2 ∙ ap text_of e.2)
]

-- an ended line of the text is `fault 16`
abbrev pub ended_wants : List ℕ → Bool
ended_wants text = list_any (bytes_eq (codes "fault 16")) (cut_of text).ended

pub wants_append : (a b : List ℕ) → (cut_of a).rest ≡ []
    → ended_wants (a ++ b) ≡ (ended_wants a || ended_wants b)
wants_append a b none = ap (list_any (bytes_eq (codes "fault 16"))) (cut_append a b none)
    ∙ list_any-append (bytes_eq (codes "fault 16")) (cut_of a).ended (cut_of b).ended

pub exact_text : (size : Size) (h : History) (lines : List (List ℕ)) (text : List ℕ) (end : History)
    → Answers size h lines text end → ended_wants text ≡ false → text ≡ replies size h lines
exact_text size h [] text end a none = a.0
exact_text size h (line ∷ lines) text end a none =
    let first = a.0 in
    let closes = closed_line size h (asked_by line) first a.1 a.3 in
    let apart = both_false (ended_wants first) (ended_wants a.2)
    (sym (ap ended_wants a.4 ∙ wants_append first a.2 closes) ∙ none) in
    let rest = exact_text size a.1 lines a.2 end a.5 apart.1 in
    elim (one_line size h (asked_by line) first a.1 a.3) [
      | inl e ↦
          a.4
          ∙ ap₂ (λ (x y : List ℕ). x ++ y) e.0
          (rest ∙ ap (λ (m : History). replies size m lines) e.1)
      | inr e ↦
          let bad : true ≡ false = sym fault_16 ∙ sym (ap ended_wants e) ∙ apart.0 in
          cc
    ]

pub ended_of_all : (text : List ℕ) → wants_memory text ≡ false → ended_wants text ≡ false
ended_of_all text h = go (length (cut_of text).rest == 0) refl h
  where
    go : (t : Bool) → (length (cut_of text).rest == 0) ≡ t → wants_memory text ≡ false
        → ended_wants text ≡ false
    go true e h = rw e at h
    go false e h =
        let k : list_any (bytes_eq (codes "fault 16"))
        ((cut_of text).ended ++ (cut_of text).rest ∷ [])
        ≡ false = rw e at h in
        (both_false _ _ (sym (list_any-append (bytes_eq (codes "fault 16")) (cut_of text).ended
        ((cut_of text).rest ∷ [])) ∙ k)).0

-- a text that answers the lines from the first event on is their answer
pub is_answer : (size : Size) (lines : List (List ℕ)) (text : List ℕ) (end : History)
    → Answers size [] lines text end → IsAnswer size lines text
is_answer size lines text end a = record {
  end = end;
  answers = a;
  exact = λ none. exact_text size [] lines text end a (ended_of_all text none);
}
