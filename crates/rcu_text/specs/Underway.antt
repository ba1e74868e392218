-- Lines in progress: read in part, answered in part, written in part. A relation `past` holds for
-- the lines that were answered and the text that answered them.
use Rattle.std.specs.Prelude.{◌≡◌, ℕ, List, [], ◌∷◌, ◌++◌, Result, MatchResult}
use Rattle.rcu_text.specs.Lines.{cut_of, kept_of}
use Rattle.rcu_text.specs.Outputs.{Out, Sends, Stops}

-- the line is answered by a reply that went out in this way: each relation of the lines and the
-- text before, from any opening, holds now with the line and the reply behind them. Only the kept
-- bytes of the line make a difference
pub record LineIsAnswered {S : Type 0} (before after : S → List (List ℕ) → List ℕ → Type 0)
    (line : List ℕ) (went : List ℕ → Type 0) : Type 0 where
  pub reply : List ℕ
  pub out : went reply
  pub told : (opened : S) (lines : List (List ℕ)) (text whole : List ℕ) → before opened lines text
      → kept_of line ≡ kept_of whole
      → after opened (lines ++ whole ∷ []) (text ++ reply)

-- these lines were answered by a text that went out in this way
pub record LinesAreAnswered (past : List (List ℕ) → List ℕ → Type 0) (lines : List (List ℕ))
    (went : List ℕ → Type 0) : Type 0 where
  pub text : List ℕ
  pub told : past lines text
  pub out : went text

-- behind these lines and their text one line more was answered, by a reply that went out in this
-- way
pub record OneMoreIsAnswered (past : List (List ℕ) → List ℕ → Type 0) (lines : List (List ℕ))
    (text line : List ℕ) (went : List ℕ → Type 0) : Type 0 where
  pub reply : List ℕ
  pub told : past (lines ++ line ∷ []) (text ++ reply)
  pub out : went reply

-- the ended lines of the bytes so far are answered, and the kept bytes of the rest are the
-- unfinished line
pub record Underway (past : List (List ℕ) → List ℕ → Type 0) (old new : Out)
    (line bytes : List ℕ) : Type 0 where
  pub stands : LinesAreAnswered past (cut_of bytes).ended (Sends old new)
  pub holds : line ≡ kept_of (cut_of bytes).rest

-- the writer failed in an answer to the first of these lines
pub record StoppedAmong (past : List (List ℕ) → List ℕ → Type 0) (lines : List (List ℕ))
    (went : List ℕ → Type 0) : Type 0 where
  pub front : List (List ℕ)
  pub later : List (List ℕ)
  pub split : lines ≡ front ++ later
  pub stands : LinesAreAnswered past front went

-- the lines that these bytes end are answered, or the writer failed in an answer to the first of
-- them
abbrev pub GoesOn : {X E : Type 0}
    → Result X E → (List (List ℕ) → List ℕ → Type 0) → Out → Out → List ℕ → List ℕ → Type 0
GoesOn r past old new line bytes =
    MatchResult r (λ _. Underway past old new line bytes)
    (λ _. StoppedAmong past (cut_of bytes).ended (Stops old new))
