-- The right text is an answer, and no line of it is `fault 16`.
use Rattle.std.proofs.Common.{◌≡◌, ◌⊎◌, ◌==◌, ◌∙◌, ℕ, Bool, true, false, List, [], ◌∷◌, ◌++◌, refl}
use Rattle.std.proofs.Common.{sym, ap, inl, inr, codes, append-nil, if◌then◌else◌}
use Rattle.std.specs.Fmt.{decimal, digits}
use Rattle.std.specs.List.{list_any, slice_split}
use Rattle.std.specs.Str.{bytes_eq}
use Rattle.std.proofs.lemmas.List.{append_cancel_right}
use Rattle.rcu_seq.specs.Fault.{first_fault}
use Rattle.rcu_seq.specs.declared.fault.Fault.{Fault}
use Rattle.rcu_seq.specs.declared.fault.Fault.TheVariants as fault
use Rattle.rcu_node.specs.declared.awaited.Answer.TheVariants as answer
use Rattle.rcu_barrier.specs.declared.lists.Visit.TheVariants as visit
use Rattle.rcu_core.specs.History.{History}
use Rattle.rcu_core.specs.Replies.{Size, accepted_reply, answer, causes, how_many, or_fault}
use Rattle.rcu_core.specs.Replies.{waits_for}
use Rattle.rcu_state.specs.Periods.{wants_begin}
use Rattle.rcu_core.specs.Situation.{Situation, situation}
use Rattle.rcu_core.specs.declared.event.Event.{Event}
use Rattle.rcu_core.specs.declared.event.Event.TheVariants as event
use Rattle.rcu_core.specs.declared.reply.Reply.{Reply}
use Rattle.rcu_core.specs.declared.reply.Reply.TheVariants as reply
use Rattle.rcu_text.specs.Lines.{cut_of}
use Rattle.rcu_text.specs.Texts.{numbered_text}
use Rattle.rcu_text.specs.declared.line_shape.Line.{Line}
use Rattle.rcu_text.specs.declared.line_shape.Line.TheVariants.{Ask, Blank, Malformed}
use Rattle.rcu_text.proofs.CallerLemmas.{Closes, closed, closes_behind}
use Rattle.rcu_script.specs.ScriptAnswers.{Answers, AnswersLine, IsAnswer, next_after, replies}
use Rattle.rcu_script.specs.ScriptAnswers.{reply_to, wants_memory}
use Rattle.rcu_script.specs.ScriptLines.{asked_by}
use Rattle.rcu_script.specs.ScriptTexts.{text_of}
use Rattle.rcu_script.proofs.ExactLemmas.{both_false, closes_reply, ended_of_all, ended_wants}
use Rattle.rcu_script.proofs.ExactLemmas.{exact_text, is_answer, wants_append}
use Rattle.rcu_script.proofs.OneLineTexts.{OneLine, first_piece, is_end, line_alone, line_listed}
use Rattle.rcu_script.proofs.OneLineTexts.{line_numbered, line_of_epoch, line_of_number}

-- ---- the right text is an answer

right_line : (size : Size) (h : History) (line : Line Event)
    → AnswersLine size h line (reply_to size h line) (next_after size h line)
right_line size h Blank = (refl, refl)
right_line size h Malformed = (refl, refl)
right_line size h (Ask event) = (answer size (situation h) event, inl refl, refl, refl)

right_lines : (size : Size) (h : History) (lines : List (List ℕ))
    → (end : History) × Answers size h lines (replies size h lines) end
right_lines size h [] = (h, (refl, refl))
right_lines size h (line ∷ lines) =
    let next = next_after size h (asked_by line) in
    let rest = right_lines size next lines in
    let first = reply_to size h (asked_by line) in (
      rest.0,
      (first, next, replies size next lines, right_line size h (asked_by line), refl, rest.1),
    )

pub right_is_answer : (size : Size) (lines : List (List ℕ))
    → IsAnswer size lines (replies size [] lines)
right_is_answer size lines =
    let right = right_lines size [] lines in
    is_answer size lines (replies size [] lines) right.0 right.1

pub only_right : (size : Size) (lines : List (List ℕ)) (text : List ℕ) (end : History)
    → Answers size [] lines text end → wants_memory text ≡ false → text ≡ replies size [] lines
only_right size lines text end a none = exact_text size [] lines text end a (ended_of_all text none)

-- ---- memory is not refused in it

abbrev is_memory : Fault → Bool
is_memory fault.NoMemory = true
is_memory _ = false

abbrev says_memory : Reply → Bool
says_memory (reply.Fault f) = is_memory f
says_memory _ = false

-- no cause has the fault of refused memory
no_memory_cause : (s : Size) (v : Situation) (e : Event)
    → list_any (λ (cause : Bool × Fault). is_memory cause.1) (causes s v e) ≡ false
no_memory_cause s v event.Turn = refl
no_memory_cause s v _ = refl

first_is_other : (causes : List (Bool × Fault))
    → list_any (λ (cause : Bool × Fault). is_memory cause.1) causes ≡ false
    → (r : Reply) → says_memory r ≡ false
    → says_memory (or_fault (first_fault causes) r) ≡ false
first_is_other [] none r other = other
first_is_other ((true, f) ∷ causes) none r other = (both_false (is_memory f) _ none).0
first_is_other ((false, f) ∷ causes) none r other =
    first_is_other causes (both_false (is_memory f) _ none).1 r other

turn_is_other : (a b d : Bool) (k l m n : ℕ)
    → says_memory (if a then (if b then reply.Ended k else reply.Waiting l)
    else (if d then reply.Begun m n else reply.Nothing)) ≡ false
turn_is_other true true d k l m n = refl
turn_is_other true false d k l m n = refl
turn_is_other false b true k l m n = refl
turn_is_other false b false k l m n = refl

test_is_other : (b : Bool) (n : ℕ)
    → says_memory (if b then reply.BarDone else reply.BarWaits n) ≡ false
test_is_other true n = refl
test_is_other false n = refl

accepted_is_other : (s : Size) (v : Situation) (e : Event)
    → says_memory (accepted_reply s v e) ≡ false
accepted_is_other s v event.Turn =
    turn_is_other v.periods.running (how_many s v.cpus.awaits == 0) (wants_begin v.periods) _ _ _ _
accepted_is_other s v event.BarTest = test_is_other (waits_for s v == 0) _
accepted_is_other s v _ = refl

answer_is_other : (s : Size) (v : Situation) (e : Event) → says_memory (answer s v e) ≡ false
answer_is_other s v e =
    first_is_other (causes s v e) (no_memory_cause s v e) (accepted_reply s v e)
    (accepted_is_other s v e)

-- the ended lines of bytes are the pieces between their line ends
abbrev pub EndedArePieces : Type 0
EndedArePieces =
    (bytes : List ℕ)
    → slice_split (λ b. b == 10) bytes ≡ (cut_of bytes).ended ++ (cut_of bytes).rest ∷ []

module _ (pieces : EndedArePieces) where
  -- a text of one line that is not `fault 16`
  other_line : (line text : List ℕ) → OneLine line text → bytes_eq (codes "fault 16") line ≡ false
      → ended_wants text ≡ false
  other_line line text one other =
      let rest : (cut_of text).rest ≡ [] = closed text (line, one.ended) in
      let cut : (cut_of text).ended ++ [] ∷ [] ≡ line ∷ [] ++ [] ∷ [] =
      ap (λ (l : List ℕ). (cut_of text).ended ++ l ∷ []) (sym rest) ∙ sym (pieces text)
      ∙ ap (slice_split is_end) (sym (append-nil text)) ∙ first_piece line text [] one in
      let ended : (cut_of text).ended ≡ line ∷ [] =
      append_cancel_right (cut_of text).ended (line ∷ []) ([] ∷ []) cut in
      ap (list_any (bytes_eq (codes "fault 16"))) ended ∙ rw other refl

  other_fault : (f : Fault) → is_memory f ≡ false → ended_wants (text_of (reply.Fault f)) ≡ false
  unfolding cut_of digits
  other_fault fault.NoMemory e = cc
  other_fault _ e = refl

  numbered : (word : List ℕ) (n : ℕ) → list_any is_end word ≡ false
      → bytes_eq (codes "fault 16") (word ++ (decimal n ++ [])) ≡ false
      → ended_wants (numbered_text word n) ≡ false
  numbered word n none other = other_line _ _ (line_numbered word n none) other

  other_reply : (r : Reply) → says_memory r ≡ false → ended_wants (text_of r) ≡ false
  other_reply (reply.Depth n) e = numbered (codes "depth ") n refl refl
  other_reply (reply.Noted n true) e =
      other_line _ _
      (line_of_number (codes "noted ") _ _ n refl (line_alone (codes " needed") refl)) refl
  other_reply (reply.Noted n false) e =
      other_line _ _ (line_of_number (codes "noted ") _ _ n refl (line_alone (codes " clear") refl))
      refl
  other_reply (reply.Made place report) e =
      other_line _ _
      (line_of_number (codes "report ") _ _ place refl
      (line_of_number (codes " cpu ") _ _ report.cpu refl
      (line_of_number (codes " tag ") _ _ report.tag.number refl (line_of_epoch report.tag.epoch))))
      refl
  other_reply (reply.Answer answer.Taken) e = other_line _ _ (line_alone (codes "taken") refl) refl
  other_reply (reply.Answer answer.Last) e = other_line _ _ (line_alone (codes "last") refl) refl
  other_reply (reply.Answer answer.Repeat) e =
      other_line _ _ (line_alone (codes "repeat") refl) refl
  other_reply (reply.Answer answer.Stale) e = other_line _ _ (line_alone (codes "stale") refl) refl
  other_reply reply.Online e = other_line _ _ (line_alone (codes "online") refl) refl
  other_reply (reply.Moved n) e = numbered (codes "offline moved ") n refl refl
  other_reply (reply.Begun n cpus) e =
      other_line _ _
      (line_of_number (codes "begun ") _ _ n refl (line_numbered (codes " awaits ") cpus refl)) refl
  other_reply (reply.Ended n) e = numbered (codes "ended ") n refl refl
  other_reply (reply.Waiting n) e = numbered (codes "waiting ") n refl refl
  other_reply reply.Nothing e = other_line _ _ (line_alone (codes "nothing") refl) refl
  other_reply (reply.Awaits []) e = other_line _ _ (line_alone (codes "awaits none") refl) refl
  other_reply (reply.Awaits (cpu ∷ cpus)) e =
      other_line _ _ (line_listed (codes "awaits") cpu cpus refl) refl
  other_reply (reply.Cookie c) e =
      other_line _ _ (line_of_number (codes "cookie ") _ _ c.number refl (line_of_epoch c.epoch))
      refl
  other_reply (reply.Polled true) e = other_line _ _ (line_alone (codes "done") refl) refl
  other_reply (reply.Polled false) e = other_line _ _ (line_alone (codes "not yet") refl) refl
  other_reply (reply.Queued n) e = numbered (codes "queued ") n refl refl
  other_reply (reply.Tended done waiting) e =
      other_line _ _
      (line_of_number (codes "tended ") _ _ done refl (line_numbered (codes " ") waiting refl)) refl
  other_reply (reply.Ran []) e = other_line _ _ (line_alone (codes "ran none") refl) refl
  other_reply (reply.Ran (value ∷ values)) e =
      other_line _ _ (line_listed (codes "ran") value values refl) refl
  other_reply reply.BarBegun e = other_line _ _ (line_alone (codes "barrier begun") refl) refl
  other_reply (reply.Visited visit.Marked) e =
      other_line _ _ (line_alone (codes "marked") refl) refl
  other_reply (reply.Visited visit.Empty) e = other_line _ _ (line_alone (codes "empty") refl) refl
  other_reply (reply.Visited visit.Already) e =
      other_line _ _ (line_alone (codes "already") refl) refl
  other_reply reply.BarDone e = other_line _ _ (line_alone (codes "barrier done") refl) refl
  other_reply (reply.BarWaits n) e = numbered (codes "barrier waits ") n refl refl
  other_reply (reply.Renumbered epoch) e = numbered (codes "epoch ") epoch refl refl
  other_reply reply.Idle e = other_line _ _ (line_alone (codes "idle") refl) refl
  other_reply reply.Awake e = other_line _ _ (line_alone (codes "awake") refl) refl
  other_reply (reply.Fault f) e = other_fault f e

  -- each line is ended in it, and none is `fault 16`
  record Whole (text : List ℕ) : Type 0 where
    closes : (text ≡ []) ⊎ Closes text
    other : ended_wants text ≡ false

  rest_of : (text : List ℕ) → (text ≡ []) ⊎ Closes text → (cut_of text).rest ≡ []
  unfolding cut_of
  rest_of text (inl none) = ap (λ (l : List ℕ). (cut_of l).rest) none
  rest_of text (inr closes) = closed text closes

  whole_reply : (r : Reply) → says_memory r ≡ false → Whole (text_of r)
  whole_reply r other = record { closes = inr (closes_reply r); other = other_reply r other }

  whole_nothing : Whole []
  unfolding cut_of
  whole_nothing = record { closes = inl refl; other = refl }

  whole_line : (size : Size) (h : History) (line : Line Event) → Whole (reply_to size h line)
  whole_line size h Blank = whole_nothing
  whole_line size h Malformed = whole_reply (reply.Fault fault.BadLine) refl
  whole_line size h (Ask event) =
      whole_reply (answer size (situation h) event) (answer_is_other size (situation h) event)

  closes_both : (a b : List ℕ) → (a ≡ []) ⊎ Closes a → (b ≡ []) ⊎ Closes b
      → (a ++ b ≡ []) ⊎ Closes (a ++ b)
  closes_both a b p (inr closes) = inr (closes_behind a b closes)
  closes_both a b (inl p) (inl q) = inl (rw (p, q) refl)
  closes_both a b (inr p) (inl q) = inr (rw q (p.0, append-nil a ∙ p.1))

  whole_both : (a b : List ℕ) → Whole a → Whole b → Whole (a ++ b)
  whole_both a b p q = record {
    closes = closes_both a b p.closes q.closes;
    other = wants_append a b (rest_of a p.closes) ∙ rw (p.other, q.other) refl;
  }

  whole_lines : (size : Size) (h : History) (lines : List (List ℕ)) → Whole (replies size h lines)
  whole_lines size h [] = whole_nothing
  whole_lines size h (line ∷ lines) =
      let next = next_after size h (asked_by line) in
      whole_both (reply_to size h (asked_by line)) (replies size next lines)
      (whole_line size h (asked_by line)) (whole_lines size next lines)

  pub right_wants_none : (size : Size) (lines : List (List ℕ))
      → wants_memory (replies size [] lines) ≡ false
  right_wants_none size lines =
      let whole = whole_lines size [] lines in
      rw (rest_of (replies size [] lines) whole.closes) whole.other
