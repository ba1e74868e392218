-- A line is printable if its words are, so a parser that knows all words need not test each byte.
use Rattle.std.proofs.Common.{◌≡◌, ◌==◌, ◌&&◌, ◌∙◌, ℕ, Bool, true, false, cond, List, [], ◌∷◌}
use Rattle.std.proofs.Common.{Option, Some, None, refl, sym, ap, arith, if◌then◌else◌}
use Rattle.std.proofs.Math.Bool.{and_assoc}
use Rattle.std.specs.List.{list_all, onto_first, slice_split}
use Rattle.std.specs.Prelude.{filter}
use Rattle.std.specs.Str.{bytes_eq}
use Rattle.std.proofs.lemmas.Bool.Decides.{nat_tests}
use Rattle.std.proofs.lemmas.Slice.Eq.{bytes_eq-Decides}
use Rattle.rcu_text.specs.Lines.{is_printable}
use Rattle.rcu_text.specs.Words.{has_byte, is_digit, is_number, number_in_word, value_of, words_of}

-- each byte of a word is printable
abbrev pub is_word : List ℕ → Bool
is_word word = list_all is_printable word

onto_word : (b : ℕ) (parts : List (List ℕ))
    → list_all is_word (onto_first b parts) ≡ (is_printable b && list_all is_word parts)
onto_word b [] = and_assoc (is_printable b) true true
onto_word b (p ∷ ps) = and_assoc (is_printable b) (is_word p) (list_all is_word ps)

space_printable : (b : ℕ) → (b == 32) ≡ true → is_printable b ≡ true
space_printable b e =
    let same : b ≡ 32 = grind (arith, nat_tests) in
    rw same refl

parts_printable : (bs : List ℕ)
    → list_all is_word (slice_split (λ b. b == 32) bs) ≡ list_all is_printable bs
parts_printable [] = refl
parts_printable (b ∷ bs) = go (b == 32) refl (parts_printable bs)
  where
    go : (t : Bool)
        → (b == 32) ≡ t
        → list_all is_word (slice_split (λ c. c == 32) bs) ≡ list_all is_printable bs
        → list_all is_word
        (cond t ([] ∷ slice_split (λ c. c == 32) bs) (onto_first b (slice_split (λ c. c == 32) bs)))
        ≡ (is_printable b && list_all is_printable bs)
    go true e ih = let p = space_printable b e in rw p ih
    go false e ih =
        onto_word b (slice_split (λ c. c == 32) bs) ∙ ap (λ (t : Bool). is_printable b && t) ih

filter_words : (ws : List (List ℕ)) → list_all is_word (filter has_byte ws) ≡ list_all is_word ws
filter_words [] = refl
filter_words ([] ∷ ws) = filter_words ws
filter_words ((b ∷ bs) ∷ ws) = ap (λ (t : Bool). is_word (b ∷ bs) && t) (filter_words ws)

-- a line is printable if each of its words is
pub words_printable : (line : List ℕ)
    → list_all is_printable line ≡ list_all is_word (words_of line)
words_printable line = sym (filter_words (slice_split (λ b. b == 32) line) ∙ parts_printable line)

digit_printable : (b : ℕ) → is_digit b ≡ true → is_printable b ≡ true
digit_printable b e = grind (arith, nat_tests)

digits_printable : (bs : List ℕ) → list_all is_digit bs ≡ true → is_word bs ≡ true
digits_printable [] e = refl
digits_printable (b ∷ bs) e = go (is_digit b) refl e (digits_printable bs)
  where
    go : (t : Bool) → is_digit b ≡ t → (t && list_all is_digit bs) ≡ true
        → (list_all is_digit bs ≡ true → is_word bs ≡ true)
        → (is_printable b && list_all is_printable bs) ≡ true
    go true d e later = let p = digit_printable b d in rw p (later e)
    go false d e later = cc

-- a number is printable
pub number_printable : (word : List ℕ) (n : ℕ) → number_in_word word ≡ Some n → is_word word ≡ true
number_printable word n found = go (is_number word) refl found
  where
    all_three : (a b c d : Bool) → (a && (b && (c && d))) ≡ true → c ≡ true
    all_three true true true d e = refl
    all_three true true false d e = cc
    all_three true false c d e = cc
    all_three false b c d e = cc

    go : (t : Bool) → is_number word ≡ t → (if t then Some (value_of word) else None) ≡ Some n
        → is_word word ≡ true
    go true e found = digits_printable word (all_three _ _ (list_all is_digit word) _ e)
    go false e found = cc

-- a name that something is found by, among printable names, is printable
pub named : {E : Type 0} (found : E) (text name : List ℕ) (x : E) (rest : Option E)
    → is_word text ≡ true
    → (rest ≡ Some found → is_word name ≡ true)
    → (if bytes_eq name text then Some x else rest) ≡ Some found
    → is_word name ≡ true
named found text name x rest printable later e = go (bytes_eq name text) refl e
  where
    go : (t : Bool) → bytes_eq name text ≡ t → (if t then Some x else rest) ≡ Some found
        → is_word name ≡ true
    go true is e = ap is_word ((bytes_eq-Decides name text).0 is) ∙ printable
    go false is e = later e
