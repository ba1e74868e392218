-- Lines in progress: with one line more, and at the end of the input.
use Rattle.std.proofs.Common.{◌≡◌, ◌≢◌, ◌==◌, ◌<◌, ℕ, false, List, [], ◌∷◌, ◌++◌, length, Result}
use Rattle.std.proofs.Common.{Ok, Err, refl, sym, ap, ◌∙◌, subst, arith, append_assoc, append-nil}
use Rattle.std.specs.Prelude.{All}
use Rattle.std.proofs.lemmas.Bool.Decides.{nat_tests}
use Rattle.rcu_text.specs.Lines.{Cut, cut_of, kept_of, lines_of}
use Rattle.rcu_text.specs.Outputs.{Out, Sends, Stops, Puts}
use Rattle.rcu_text.specs.Underway.{GoesOn, OneMoreIsAnswered, LineIsAnswered, LinesAreAnswered}
use Rattle.rcu_text.specs.Underway.{StoppedAmong, Underway}
use Rattle.rcu_text.proofs.CutLemmas.{cut_line, cut_open, ended_grows}
use Rattle.rcu_text.proofs.LineLemmas.{kept_again, nothing_kept}
use Rattle.rcu_text.proofs.OutputLemmas.{Sends-trans, Sends-Stops, puts_two}

-- a relation of lines and a text
abbrev Past : Type 1
Past = List (List ℕ) → List ℕ → Type 0

-- ---- one line more

-- a reply for any opening is one for this opening
pub one_more : {S : Type 0} (before after : S → Past) (line : List ℕ) (opened : S)
    (lines : List (List ℕ)) (text whole : List ℕ) (went : List ℕ → Type 0)
    → LineIsAnswered before after line went
    → before opened lines text
    → kept_of line ≡ kept_of whole
    → OneMoreIsAnswered (after opened) lines text whole went
one_more before after line opened lines text whole went r told kept =
    record { reply = r.reply; told = r.told opened lines text whole told kept; out = r.out }

-- one line more is answered
pub stands_more : (mid past : Past) (lines : List (List ℕ)) (line : List ℕ) (a b c : Out)
    → (s : LinesAreAnswered mid lines (Sends a b))
    → OneMoreIsAnswered past lines s.text line (Sends b c)
    → LinesAreAnswered past (lines ++ line ∷ []) (Sends a c)
stands_more mid past lines line a b c s r = record {
  text = s.text ++ r.reply;
  told = r.told;
  out = Sends-trans a b c s.text r.reply s.out r.out;
}

-- the writer failed in the answer to one line more
pub stopped_more : (mid past : Past) (lines : List (List ℕ)) (line : List ℕ) (a b c : Out)
    → (s : LinesAreAnswered mid lines (Sends a b))
    → OneMoreIsAnswered past lines s.text line (Stops b c)
    → LinesAreAnswered past (lines ++ line ∷ []) (Stops a c)
stopped_more mid past lines line a b c s r = record {
  text = s.text ++ r.reply;
  told = r.told;
  out = Sends-Stops a b c s.text r.reply s.out r.out;
}

-- the buffered bytes were written behind an answer
pub stands_flushed : {X E : Type 0} (r : Result X E) (past : Past) (lines : List (List ℕ))
    (a b c : Out)
    → LinesAreAnswered past lines (Sends a b)
    → Puts r b c []
    → LinesAreAnswered past lines (Puts r a c)
stands_flushed r past lines a b c s p = record {
  text = s.text;
  told = s.told;
  out = subst (Puts r a c) (append-nil s.text) (puts_two r a b c s.text [] s.out p);
}

-- ---- a piece

-- a line is ended and answered
pub underway_line : (mid past : Past) (a b c : Out) (line bytes front : List ℕ)
    → All (λ x. x ≢ 10) front
    → Underway mid a b line bytes
    → ((lines : List (List ℕ)) (text begun : List ℕ) → mid lines text → line ≡ kept_of begun
    → OneMoreIsAnswered past lines text (begun ++ front) (Sends b c))
    → Underway past a c [] (bytes ++ (front ++ 10 ∷ []))
underway_line mid past a b c line bytes front h u go =
    let cut = cut_of bytes in
    record {
      stands = subst (λ (k : Cut). LinesAreAnswered past k.ended (Sends a c))
          (sym (cut_line bytes front h))
          (stands_more mid past cut.ended (cut.rest ++ front) a b c u.stands
          (go cut.ended u.stands.text cut.rest u.stands.told u.holds));
      holds = subst (λ (k : Cut). [] ≡ kept_of k.rest) (sym (cut_line bytes front h)) refl;
    }

-- the writer failed in the answer to the line that is ended
pub stopped_line : (mid past : Past) (a b c : Out) (line bytes front : List ℕ)
    → All (λ x. x ≢ 10) front
    → Underway mid a b line bytes
    → ((lines : List (List ℕ)) (text begun : List ℕ) → mid lines text → line ≡ kept_of begun
    → OneMoreIsAnswered past lines text (begun ++ front) (Stops b c))
    → LinesAreAnswered past (cut_of (bytes ++ (front ++ 10 ∷ []))).ended (Stops a c)
stopped_line mid past a b c line bytes front h u go =
    let cut = cut_of bytes in
    subst (λ (k : Cut). LinesAreAnswered past k.ended (Stops a c)) (sym (cut_line bytes front h))
    (stopped_more mid past cut.ended (cut.rest ++ front) a b c u.stands
    (go cut.ended u.stands.text cut.rest u.stands.told u.holds))

-- bytes that end no line are taken in hand
pub underway_rest : (past : Past) (a b : Out) (line longer bytes rest : List ℕ)
    → All (λ x. x ≢ 10) rest → Underway past a b line bytes → longer ≡ kept_of (line ++ rest)
    → Underway past a b longer (bytes ++ rest)
underway_rest past a b line longer bytes rest h u e = record {
  stands = subst (λ (k : Cut). LinesAreAnswered past k.ended (Sends a b))
      (sym (cut_open bytes rest h)) u.stands;
  holds = subst (λ (k : Cut). longer ≡ kept_of k.rest) (sym (cut_open bytes rest h))
      (e ∙ ap (λ (l : List ℕ). kept_of (l ++ rest)) u.holds ∙ kept_again (cut_of bytes).rest rest);
}

-- a run that stops in a prefix of the bytes stops among their lines
pub stopped_among : (past : Past) (went : List ℕ → Type 0) (bytes more all : List ℕ)
    → bytes ++ more ≡ all → LinesAreAnswered past (cut_of bytes).ended went
    → StoppedAmong past (cut_of all).ended went
stopped_among past went bytes more all e s =
    let g = ended_grows bytes more in
    record {
      front = (cut_of bytes).ended;
      later = g.0;
      split = ap (λ (l : List ℕ). (cut_of l).ended) (sym e) ∙ g.1;
      stands = s;
    }

-- ---- a part of the input

-- a line is ended, and the writer failed in its answer
pub piece_stopped : (mid past : Past) (a b c : Out)
    (line bytes done front behind piece rest : List ℕ)
    → All (λ x. x ≢ 10) front
    → piece ≡ done ++ rest
    → rest ≡ front ++ 10 ∷ behind
    → Underway mid a b line (bytes ++ done)
    → ((lines : List (List ℕ)) (text begun : List ℕ) → mid lines text → line ≡ kept_of begun
    → OneMoreIsAnswered past lines text (begun ++ front) (Stops b c))
    → StoppedAmong past (cut_of (bytes ++ piece)).ended (Stops a c)
piece_stopped mid past a b c line bytes done front behind piece rest h whole next u go =
    stopped_among past (Stops a c) ((bytes ++ done) ++ (front ++ 10 ∷ [])) behind (bytes ++ piece)
    (done_more bytes done front behind piece rest whole next)
    (stopped_line mid past a b c line (bytes ++ done) front h u go)
  where
    done_more : (bytes done front behind piece rest : List ℕ)
        → piece ≡ done ++ rest → rest ≡ front ++ 10 ∷ behind
        → ((bytes ++ done) ++ (front ++ 10 ∷ [])) ++ behind ≡ bytes ++ piece
    done_more bytes done front behind piece rest whole next = rw (whole, next) (simp append_assoc)

pub piece_next : (done front behind piece rest : List ℕ)
    → piece ≡ done ++ rest → rest ≡ front ++ 10 ∷ behind
    → piece ≡ (done ++ (front ++ 10 ∷ [])) ++ behind
piece_next done front behind piece rest whole next = rw (whole, next) (simp append_assoc)

-- a line of the piece is answered
pub piece_line : (mid past : Past) (a b c : Out) (line cleared bytes done front : List ℕ)
    → All (λ x. x ≢ 10) front
    → cleared ≡ []
    → Underway mid a b line (bytes ++ done)
    → ((lines : List (List ℕ)) (text begun : List ℕ) → mid lines text → line ≡ kept_of begun
    → OneMoreIsAnswered past lines text (begun ++ front) (Sends b c))
    → Underway past a c cleared (bytes ++ (done ++ (front ++ 10 ∷ [])))
piece_line mid past a b c line cleared bytes done front h none u go =
    let u2 : Underway past a c [] ((bytes ++ done) ++ (front ++ 10 ∷ [])) =
    underway_line mid past a b c line (bytes ++ done) front h u go in
    let u3 : Underway past a c [] (bytes ++ (done ++ (front ++ 10 ∷ []))) =
    subst (Underway past a c []) (append_assoc bytes done (front ++ 10 ∷ [])) u2 in
    subst (λ (l : List ℕ). Underway past a c l (bytes ++ (done ++ (front ++ 10 ∷ [])))) (sym none)
    u3

-- the rest of the piece is in hand
pub piece_rest : (past : Past) (a b : Out) (line longer bytes done rest piece : List ℕ)
    → All (λ x. x ≢ 10) rest
    → piece ≡ done ++ rest
    → longer ≡ kept_of (line ++ rest)
    → Underway past a b line (bytes ++ done)
    → Underway past a b longer (bytes ++ piece)
piece_rest past a b line longer bytes done rest piece h whole e u =
    let u2 : Underway past a b longer ((bytes ++ done) ++ rest) = underway_rest past a b line longer
    (bytes ++ done) rest h u e in
    subst (Underway past a b longer)
    (append_assoc bytes done rest ∙ ap (λ (l : List ℕ). bytes ++ l) (sym whole)) u2

-- the buffered bytes were written behind the answers to a part
pub goes_on_flushed : {X E : Type 0} (r : Result X E) (past : Past) (a b c : Out)
    (line bytes : List ℕ)
    → Underway past a b line bytes
    → Puts r b c []
    → GoesOn r past a c line bytes
goes_on_flushed {E = E} (Ok x) past a b c line bytes u p = record {
  stands = stands_flushed {E = E} (Ok x) past (cut_of bytes).ended a b c u.stands p;
  holds = u.holds;
}
goes_on_flushed {X = X} (Err e) past a b c line bytes u p =
    stopped_among past (Stops a c) bytes [] bytes (append-nil bytes)
    (stands_flushed {X = X} (Err e) past (cut_of bytes).ended a b c u.stands p)

-- ---- the end of the input

-- no byte is in hand
pub finish_ended : {X E : Type 0} (r : Result X E) (past : Past) (a b c : Out) (line bytes : List ℕ)
    → length line ≡ 0 → Underway past a b line bytes → Puts r b c []
    → LinesAreAnswered past (lines_of bytes) (Puts r a c)
finish_ended r past a b c line bytes none u p =
    let closed : (cut_of bytes).rest ≡ [] =
    nothing_kept (cut_of bytes).rest (sym (ap length u.holds) ∙ none) in
    let same : lines_of bytes ≡ (cut_of bytes).ended = rw closed refl in
    rw same (stands_flushed r past (cut_of bytes).ended a b c u.stands p)

lines_end : (bytes : List ℕ) → 0 < length (cut_of bytes).rest
    → (cut_of bytes).ended ++ (cut_of bytes).rest ∷ [] ≡ lines_of bytes
lines_end bytes some =
    let e : (length (cut_of bytes).rest == 0) ≡ false = grind (arith, nat_tests) in
    rw e refl

some_begun : (line rest : List ℕ) → line ≡ kept_of rest → 0 < length line → 0 < length rest
some_begun line [] e some = absurd (omega (arith, ap length e))
some_begun line (b ∷ bs) e some = omega arith

-- the last line is answered
pub finish_line : (mid past : Past) (a b c : Out) (line bytes : List ℕ)
    → 0 < length line
    → Underway mid a b line bytes
    → ((lines : List (List ℕ)) (text whole : List ℕ) → mid lines text → line ≡ kept_of whole
    → OneMoreIsAnswered past lines text whole (Sends b c))
    → LinesAreAnswered past (lines_of bytes) (Sends a c)
finish_line mid past a b c line bytes some u go =
    let cut = cut_of bytes in
    subst (λ (l : List (List ℕ)). LinesAreAnswered past l (Sends a c))
    (lines_end bytes (some_begun line cut.rest u.holds some))
    (stands_more mid past cut.ended cut.rest a b c u.stands
    (go cut.ended u.stands.text cut.rest u.stands.told u.holds))

pub finish_stopped : (mid past : Past) (a b c : Out) (line bytes : List ℕ)
    → 0 < length line
    → Underway mid a b line bytes
    → ((lines : List (List ℕ)) (text whole : List ℕ) → mid lines text → line ≡ kept_of whole
    → OneMoreIsAnswered past lines text whole (Stops b c))
    → LinesAreAnswered past (lines_of bytes) (Stops a c)
finish_stopped mid past a b c line bytes some u go =
    let cut = cut_of bytes in
    subst (λ (l : List (List ℕ)). LinesAreAnswered past l (Stops a c))
    (lines_end bytes (some_begun line cut.rest u.holds some))
    (stopped_more mid past cut.ended cut.rest a b c u.stands
    (go cut.ended u.stands.text cut.rest u.stands.told u.holds))
