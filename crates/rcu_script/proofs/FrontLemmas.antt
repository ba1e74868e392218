-- The right text of lines begins the right text of those and later ones.
use Rattle.std.proofs.Common.{◌≡◌, ◌++◌, ◌∷◌, ◌∙◌, ℕ, List, [], false, Option, refl, sym, ap}
use Rattle.std.proofs.Common.{append_assoc}
use Rattle.std.specs.Io.KnownBytes.{Appends}
use Rattle.rcu_core.specs.History.{History}
use Rattle.rcu_core.specs.Replies.{Size}
use Rattle.rcu_text.specs.Lines.{lines_of}
use Rattle.rcu_text.specs.Runs.{BegunToWrite}
use Rattle.rcu_script.specs.PairLines.{pair_asked_by}
use Rattle.rcu_script.specs.PairState.{Pair}
use Rattle.rcu_script.specs.PairTexts.{answer_to_line, pair_after_line, pair_replies}
use Rattle.rcu_script.specs.ScriptAnswers.{IsAnswer, next_after, replies, reply_to, wants_memory}
use Rattle.rcu_script.specs.ScriptLines.{asked_by}

replies_front : (size : Size) (h : History) (lines later : List (List ℕ))
    → (rest : List ℕ) × (replies size h (lines ++ later) ≡ replies size h lines ++ rest)
replies_front size h [] later = (replies size h later, refl)
replies_front size h (line ∷ lines) later =
    let next = next_after size h (asked_by line) in
    let first = reply_to size h (asked_by line) in
    let more = replies_front size next lines later in (
      more.0,
      ap (λ (l : List ℕ). first ++ l) more.1
          ∙ sym (append_assoc first (replies size next lines) more.0),
    )

pub right_text_front : (size : Size) (lines later : List (List ℕ)) (text : List ℕ)
    → IsAnswer size lines text → wants_memory text ≡ false
    → (rest : List ℕ) × (replies size [] (lines ++ later) ≡ text ++ rest)
right_text_front size lines later text is none =
    let more = replies_front size [] lines later in
    (more.0, more.1 ∙ ap (λ (l : List ℕ). l ++ more.0) (sym (is.exact none)))

pub pair_front : (p : Pair) (lines later : List (List ℕ))
    → (rest : List ℕ) × (pair_replies p (lines ++ later) ≡ pair_replies p lines ++ rest)
pair_front p [] later = (pair_replies p later, refl)
pair_front p (line ∷ lines) later =
    let next = pair_after_line p (pair_asked_by line) in
    let first = answer_to_line p (pair_asked_by line) in
    let more = pair_front next lines later in (
      more.0,
      ap (λ (l : List ℕ). first ++ l) more.1
          ∙ sym (append_assoc first (pair_replies next lines) more.0),
    )

pub pair_text_front : (p : Pair) (lines later : List (List ℕ)) (text : List ℕ)
    → text ≡ pair_replies p lines
    → (rest : List ℕ) × (text ++ rest ≡ pair_replies p (lines ++ later))
pair_text_front p lines later text is =
    let more = pair_front p lines later in
    (more.0, ap (λ (l : List ℕ). l ++ more.0) is ∙ sym more.1)

pub pair_text_begins : (p : Pair) (lines later : List (List ℕ)) (text : List ℕ)
    → text ≡ pair_replies p lines
    → (rest : List ℕ) × (pair_replies p (lines ++ later) ≡ text ++ rest)
pair_text_begins p lines later text is =
    let more = pair_text_front p lines later text is in
    (more.0, sym more.1)

-- ---- the text written before a stream failed

-- the right text of the lines that were read begins with this one, which is written
pub begun_reading : (right : List (List ℕ) → List ℕ) (ended later : List (List ℕ))
    (all text : List ℕ) (old new : Option (List ℕ))
    → lines_of all ≡ ended ++ later
    → (rest : List ℕ) × (right (ended ++ later) ≡ text ++ rest)
    → Appends old new text
    → BegunToWrite (right (lines_of all)) old new
begun_reading right ended later all text old new lines more out =
    record { written = text; unwritten = more.0; split = ap right lines ∙ more.1; out = out }

-- the right text of the first lines that were read begins with this one, of which a prefix is
-- written
pub begun_writing : (right : List (List ℕ) → List ℕ) (read front later behind : List (List ℕ))
    (all written unwritten : List ℕ) (old new : Option (List ℕ)) → lines_of all ≡ read ++ behind
    → read ≡ front ++ later
    → (rest : List ℕ) × (right (front ++ (later ++ behind)) ≡ (written ++ unwritten) ++ rest)
    → Appends old new written → BegunToWrite (right (lines_of all)) old new
begun_writing right read front later behind all written unwritten old new lines split more out =
    let all_lines : lines_of all ≡ front ++ (later ++ behind) =
    lines ∙ ap (λ (l : List (List ℕ)). l ++ behind) split ∙ append_assoc front later behind in
    record {
      written = written;
      unwritten = unwritten ++ more.0;
      split = ap right all_lines ∙ more.1 ∙ append_assoc written unwritten more.0;
      out = out;
    }
