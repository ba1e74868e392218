-- The first word of a line, and the rest.
use Rattle.std.proofs.Common.{◌≡◌, ◌==◌, ◌<◌, ℕ, suc, Bool, true, false, List, [], ◌∷◌, take, drop}
use Rattle.std.proofs.Common.{refl, ap, ◌∙◌, arith}
use Rattle.std.specs.Prelude.{filter}
use Rattle.std.specs.List.{slice_split, position_or_len}
use Rattle.rcu_text.specs.Words.{words_of, has_byte}

abbrev pub space : ℕ → Bool
space b = b == 32

-- how many bytes are before the first space
abbrev pub first_len : List ℕ → ℕ
first_len bs = position_or_len space bs

-- the parts behind the first one
abbrev pub later_parts : List ℕ → List (List ℕ)
later_parts [] = []
later_parts (b ∷ bs) = slice_split space bs

len_at_space : (b : ℕ) (bs : List ℕ) → space b ≡ true → first_len (b ∷ bs) ≡ 0
len_at_space b bs e = rw e refl

len_else : (b : ℕ) (bs : List ℕ) → space b ≡ false → first_len (b ∷ bs) ≡ suc (first_len bs)
len_else b bs e = rw e (omega arith)

split_first : (bs : List ℕ)
    → slice_split space bs ≡ take (first_len bs) bs ∷ later_parts (drop (first_len bs) bs)
split_first [] = refl
split_first (b ∷ bs) = go (space b) refl (split_first bs)
  where
    go : (t : Bool)
        → space b ≡ t
        → slice_split space bs ≡ take (first_len bs) bs ∷ later_parts (drop (first_len bs) bs)
        → slice_split space (b ∷ bs)
        ≡ take (first_len (b ∷ bs)) (b ∷ bs) ∷ later_parts (drop (first_len (b ∷ bs)) (b ∷ bs))
    go true e ih =
        let n = len_at_space b bs e in
        rw n (rw e refl)
    go false e ih =
        let n = len_else b bs e in
        rw n (rw (e, ih) refl)

words_later : (bs : List ℕ)
    → filter has_byte (later_parts (drop (first_len bs) bs)) ≡ words_of (drop (first_len bs) bs)
words_later [] = refl
words_later (b ∷ bs) = go (space b) refl (words_later bs)
  where
    go : (t : Bool) → space b ≡ t → filter has_byte (later_parts (drop (first_len bs) bs))
        ≡ words_of (drop (first_len bs) bs)
        → filter has_byte (later_parts (drop (first_len (b ∷ bs)) (b ∷ bs)))
        ≡ words_of (drop (first_len (b ∷ bs)) (b ∷ bs))
    go true e ih =
        let n = len_at_space b bs e in
        rw n (rw e refl)
    go false e ih =
        let n = len_else b bs e in
        rw n ih

word_there : (bs : List ℕ) (ws : List (List ℕ)) → 0 < first_len bs
    → filter has_byte (take (first_len bs) bs ∷ ws) ≡ take (first_len bs) bs ∷ filter has_byte ws
word_there [] ws lt = absurd (omega arith)
word_there (b ∷ bs) ws lt = go (space b) refl
  where
    go : (t : Bool) → space b ≡ t → filter has_byte (take (first_len (b ∷ bs)) (b ∷ bs) ∷ ws)
        ≡ take (first_len (b ∷ bs)) (b ∷ bs) ∷ filter has_byte ws
    go true e =
        let n = len_at_space b bs e in
        absurd (omega arith)
    go false e =
        let n = len_else b bs e in
        rw n refl

-- the bytes before the first space are the first word, if there are any
pub words_first : (bs : List ℕ) (n : ℕ) → n ≡ position_or_len (λ b. b == 32) bs → 0 < n
    → words_of bs ≡ take n bs ∷ words_of (drop n bs)
words_first bs n e lt =
    let some : 0 < first_len bs = omega arith in
    rw e
    (ap (filter has_byte) (split_first bs)
    ∙ word_there bs (later_parts (drop (first_len bs) bs)) some
    ∙ ap (λ (ws : List (List ℕ)). take (first_len bs) bs ∷ ws) (words_later bs))
