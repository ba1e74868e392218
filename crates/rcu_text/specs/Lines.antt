-- The lines of a byte string.
use Rattle.std.specs.Prelude.{ℕ, Bool, List, [], ◌∷◌, ◌++◌, ◌==◌, ◌&&◌, length, take, fold, nat_le}
use Rattle.std.specs.Prelude.{if◌then◌else◌, Option, Some, None}
use Rattle.std.specs.List.{list_all}
use Rattle.std.specs.Option.{option_map_or}
use Rattle.rcu_text.specs.Words.{words_of}
use Rattle.rcu_text.specs.declared.line_shape.Line.{Line}
use Rattle.rcu_text.specs.declared.line_shape.Line.TheVariants.{Blank, Malformed, Ask}

-- ---- cut at line ends

-- the lines that are ended, and the bytes behind the last line end
pub record Cut : Type 0 where
  pub ended : List (List ℕ)
  pub rest : List ℕ

-- the byte 10 ends a line, and any other byte joins it
abbrev pub with_byte : Cut → ℕ → Cut
with_byte cut b =
    if b == 10 then record { ended = cut.ended ++ cut.rest ∷ []; rest = [] }
    else record { ended = cut.ended; rest = cut.rest ++ b ∷ [] }

-- no line, and no byte
abbrev pub nothing_cut : Cut
nothing_cut = record { ended = []; rest = [] }

-- the bytes, cut at their line ends
unfoldable pub cut_of : List ℕ → Cut
cut_of bytes = fold with_byte nothing_cut bytes

-- a last line without its end counts if it has a byte
abbrev pub lines_of_cut : Cut → List (List ℕ)
lines_of_cut cut = if length cut.rest == 0 then cut.ended else cut.ended ++ cut.rest ∷ []

-- the lines of a byte string
abbrev pub lines_of : List ℕ → List (List ℕ)
lines_of bytes = lines_of_cut (cut_of bytes)

-- the lines that were read completely with these bytes, if the reader has these left: those that
-- the bytes end, and a last one without its end if no byte is known to follow
abbrev pub lines_read : List ℕ → Option (List ℕ) → List (List ℕ)
lines_read bytes None = lines_of bytes
lines_read bytes (Some []) = lines_of bytes
lines_read bytes (Some (b ∷ left)) = (cut_of bytes).ended

-- ---- the shape of a line

-- a byte that a line may have
abbrev pub is_printable : ℕ → Bool
is_printable b = nat_le 32 b && nat_le b 126

-- at most 80 bytes, each of which a line may have
abbrev pub is_well_formed : List ℕ → Bool
is_well_formed line = nat_le (length line) 80 && list_all is_printable line

-- the kept bytes of a line that is being read: its first 81, since a longer line is malformed
-- whatever follows
abbrev pub kept_of : List ℕ → List ℕ
kept_of line = take 81 line

module _ {E : Type 0} (parse : List ℕ → List (List ℕ) → Option E) where
  -- words ask for the request that their first one and the others parse as, or else the line is
  -- malformed; a line without a word is blank
  abbrev pub line_of_words : List (List ℕ) → Line E
  line_of_words [] = Blank
  line_of_words (name ∷ words) = option_map_or (λ event. Ask event) (parse name words) Malformed

  -- the kind of a line: malformed in its bytes, or as its words say
  abbrev pub line_by : List ℕ → Line E
  line_by line = if is_well_formed line then line_of_words (words_of line) else Malformed
