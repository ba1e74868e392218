-- Texts of one line, and the numbers in them.
use Rattle.std.proofs.Common.{◌≡◌, ◌==◌, ◌∙◌, ◌%◌, ◌/◌, ◌<◌, ℕ, zero, suc, Bool, true, false, List}
use Rattle.std.proofs.Common.{[], ◌∷◌, ◌++◌, length, refl, sym, ap, codes, arith, append_assoc}
use Rattle.std.proofs.Common.{if◌then◌else◌}
use Rattle.std.specs.Prelude.{flat_map, nat_le, slice_index_or}
use Rattle.std.specs.Fmt.{decimal, digit_glyph, digits, digits_onto}
use Rattle.std.specs.List.{list_any, slice_split}
use Rattle.std.proofs.lemmas.Bool.Decides.{nat_tests}
use Rattle.std.proofs.lemmas.List.Folds.{list_any-append, list_any_at}
use Rattle.std.proofs.lemmas.List.Splits.{slice_split_at}
use Rattle.std.specs.Prelude.{All}
use Rattle.rcu_text.specs.Texts.{numbered_text, space_and_number}
use Rattle.rcu_script.specs.ScriptTexts.{epoch_text}

-- the byte ends a line
abbrev pub is_end : ℕ → Bool
is_end b = b == 10

-- ---- no line ends in a number

-- a byte before the digits is in no number
module _ (test : ℕ → Bool) (is_low : (d : ℕ) → d < 10 → test (digit_glyph false d) ≡ false) where
  onto_without : (k n : ℕ) (acc : List ℕ) → list_any test acc ≡ false
      → list_any test (digits_onto k 10 false n acc) ≡ false
  onto_without zero n acc none = none
  onto_without (suc k) n acc none =
      let glyph = digit_glyph false (n % 10) in
      let one : list_any test (glyph ∷ acc) ≡ false = rw (is_low (n % 10) (omega arith)) none in
      let more = digits_onto k 10 false (n / 10) (glyph ∷ acc) in
      elim (n / 10 == 0) as (λ t. list_any test (if t then glyph ∷ acc else more) ≡ false) [
        | true ↦ one
        | false ↦ onto_without k (n / 10) (glyph ∷ acc) one
      ]

  decimal_without : (n : ℕ) → list_any test (decimal n) ≡ false
  unfolding digits
  decimal_without n = onto_without 64 n [] refl

decimal_no_end : (n : ℕ) → list_any is_end (decimal n) ≡ false
decimal_no_end n = decimal_without is_end (λ d low. grind (arith, nat_tests)) n

no_end_in : (a b : List ℕ) → list_any is_end a ≡ false → list_any is_end b ≡ false
    → list_any is_end (a ++ b) ≡ false
no_end_in a b p q = list_any-append is_end a b ∙ rw (p, q) refl

listed_no_end : (items : List ℕ) → list_any is_end (flat_map space_and_number items) ≡ false
listed_no_end [] = refl
listed_no_end (item ∷ items) =
    no_end_in (space_and_number item) (flat_map space_and_number items) (decimal_no_end item)
    (listed_no_end items)

-- ---- texts of one line

-- the end of a line with a number of an epoch
abbrev end_of_epoch : ℕ → List ℕ
end_of_epoch epoch = if epoch == 0 then [] else codes " epoch " ++ (decimal epoch ++ [])

-- the text is this line and its end
pub record OneLine (line text : List ℕ) : Type 0 where
  pub no_end : list_any is_end line ≡ false
  pub ended : text ≡ line ++ 10 ∷ []

pub line_alone : (line : List ℕ) → list_any is_end line ≡ false → OneLine line (line ++ codes "\n")
line_alone line none = record { no_end = none; ended = refl }

pub line_behind : (word line text : List ℕ) → list_any is_end word ≡ false → OneLine line text
    → OneLine (word ++ line) (word ++ text)
line_behind word line text none one = record {
  no_end = no_end_in word line none one.no_end;
  ended = ap (λ (l : List ℕ). word ++ l) one.ended ∙ sym (append_assoc word line (10 ∷ []));
}

pub line_of_number : (word line text : List ℕ) (n : ℕ)
    → list_any is_end word ≡ false → OneLine line text
    → OneLine (word ++ (decimal n ++ line)) (word ++ (decimal n ++ text))
line_of_number word line text n none one =
    line_behind word (decimal n ++ line) (decimal n ++ text) none
    (line_behind (decimal n) line text (decimal_no_end n) one)

pub line_numbered : (word : List ℕ) (n : ℕ) → list_any is_end word ≡ false
    → OneLine (word ++ (decimal n ++ [])) (numbered_text word n)
line_numbered word n none = line_of_number word [] (codes "\n") n none (line_alone [] refl)

pub line_of_epoch : (epoch : ℕ) → OneLine (end_of_epoch epoch) (epoch_text epoch)
line_of_epoch epoch = go (epoch == 0)
  where
    go : (t : Bool) → OneLine (if t then [] else codes " epoch " ++ (decimal epoch ++ []))
        (if t then codes "\n" else numbered_text (codes " epoch ") epoch)
    go true = line_alone [] refl
    go false = line_numbered (codes " epoch ") epoch refl

pub line_listed : (word : List ℕ) (item : ℕ) (items : List ℕ) → list_any is_end word ≡ false
    → OneLine (word ++ flat_map space_and_number (item ∷ items))
    (word ++ (flat_map space_and_number (item ∷ items) ++ codes "\n"))
line_listed word item items none =
    line_behind word (flat_map space_and_number (item ∷ items)) _ none
    (line_alone (flat_map space_and_number (item ∷ items)) (listed_no_end (item ∷ items)))

all_without : (test : ℕ → Bool) (line : List ℕ) → list_any test line ≡ false
    → All (λ b. test b ≡ false) line
all_without test line none = λ k d within. go k d within _ refl
  where
    go : (k d : ℕ) → k < length line → (t : Bool) → test (slice_index_or line k d) ≡ t
        → test (slice_index_or line k d) ≡ false
    go k d within false e = e
    go k d within true e =
        let some : list_any test line ≡ true = list_any_at test line k d within e in
        absurd (cc)

-- a byte that may follow a number
abbrev pub is_break : ℕ → Bool
is_break b = nat_le b 32

-- a number is the first part of a text that begins with it and such a byte
pub first_number : (n b : ℕ) (more : List ℕ) → is_break b ≡ true
    → slice_split is_break (decimal n ++ b ∷ more) ≡ decimal n ∷ slice_split is_break more
first_number n b more breaks =
    slice_split_at is_break (decimal n) b more
    (all_without is_break (decimal n)
    (decimal_without is_break (λ d low. grind (arith, nat_tests)) n))
    breaks

-- the line is the first part of bytes that begin with the text
pub first_piece : (line text more : List ℕ) → OneLine line text
    → slice_split is_end (text ++ more) ≡ line ∷ slice_split is_end more
first_piece line text more one =
    ap (λ (l : List ℕ). slice_split is_end (l ++ more)) one.ended
    ∙ ap (slice_split is_end) (append_assoc line (10 ∷ []) more)
    ∙ slice_split_at is_end line 10 more (all_without is_end line one.no_end) refl
