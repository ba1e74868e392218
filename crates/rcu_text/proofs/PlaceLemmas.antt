-- The first byte that passes a test.
use Rattle.std.proofs.Common.{◌≡◌, ◌≢◌, ◌==◌, ◌<◌, ◌≤◌, ℕ, suc, Bool, true, false, not, List, []}
use Rattle.std.proofs.Common.{◌∷◌, length, take, drop, Option, refl, ap, ◌∙◌, arith}
use Rattle.std.proofs.lemmas.Bool.Decides.{nat_tests}
use Rattle.std.proofs.lemmas.List.Elements.{All-cons, All-nil}
use Rattle.std.proofs.lemmas.List.Sums.{prefix_len-le-length}
use Rattle.std.specs.Prelude.{All, position, nat_lt, unwrap_or}
use Rattle.std.specs.List.{position_or_len}

-- the place is there, or the length
pub place_fits : (p : ℕ → Bool) (xs : List ℕ) → position_or_len p xs ≤ length xs
place_fits p xs = prefix_len-le-length (λ x. not (p x)) xs

-- if there is none, the length is used instead
pub place_or_length : (p : ℕ → Bool) (xs : List ℕ)
    → unwrap_or (position p xs) (length xs) ≡ position_or_len p xs
place_or_length p xs = go (nat_lt (position_or_len p xs) (length xs)) refl
  where
    go : (t : Bool) → nat_lt (position_or_len p xs) (length xs) ≡ t
        → unwrap_or (position p xs) (length xs) ≡ position_or_len p xs
    go true e = rw e refl
    go false e =
        let most = place_fits p xs in
        let least : length xs ≤ position_or_len p xs = grind (arith, nat_tests) in
        rw e (omega arith)

-- the values used for a place and its length
pub place_there : (p : ℕ → Bool) (xs : List ℕ) (o : Option ℕ) (n : ℕ) → o ≡ position p xs
    → n ≡ unwrap_or o (length xs) → (n ≡ position_or_len p xs) × (n ≤ length xs)
place_there p xs o n found is =
    let same : n ≡ position_or_len p xs = is ∙ ap (λ (q : Option ℕ). unwrap_or q (length xs)) found
    ∙ place_or_length p xs in
    let most = place_fits p xs in
    (same, omega arith)

-- ---- a line end

abbrev pub is_end : ℕ → Bool
is_end b = b == 10

abbrev end_place : List ℕ → ℕ
end_place bs = position_or_len is_end bs

no_end : (b : ℕ) → is_end b ≡ false → b ≢ 10
no_end b e = λ same. grind (arith, nat_tests)

end_here : (b : ℕ) → is_end b ≡ true → b ≡ 10
end_here b e = grind (arith, nat_tests)

place_here : (b : ℕ) (bs : List ℕ) → is_end b ≡ true → end_place (b ∷ bs) ≡ 0
place_here b bs e = rw e refl

place_later : (b : ℕ) (bs : List ℕ) → is_end b ≡ false → end_place (b ∷ bs) ≡ suc (end_place bs)
place_later b bs e = rw e (omega arith)

-- no byte before the first line end is a line end
front_open : (bs : List ℕ) → All (λ b. b ≢ 10) (take (end_place bs) bs)
front_open [] = All-nil (λ b. b ≢ 10)
front_open (b ∷ bs) = go (is_end b) refl (front_open bs)
  where
    go : (t : Bool) → is_end b ≡ t → All (λ b. b ≢ 10) (take (end_place bs) bs)
        → All (λ b. b ≢ 10) (take (end_place (b ∷ bs)) (b ∷ bs))
    go true e ih = let n = place_here b bs e in rw n (All-nil (λ x. x ≢ 10))
    go false e ih = let n = place_later b bs e in
        rw n (All-cons (λ x. x ≢ 10) b (take (end_place bs) bs) (no_end b e) ih)

end_stands : (bs : List ℕ) → end_place bs < length bs
    → drop (end_place bs) bs ≡ 10 ∷ drop 1 (drop (end_place bs) bs)
end_stands [] lt = absurd (omega arith)
end_stands (b ∷ bs) lt = go (is_end b) refl lt (end_stands bs)
  where
    go : (t : Bool) → is_end b ≡ t → end_place (b ∷ bs) < length (b ∷ bs)
        → (end_place bs < length bs → drop (end_place bs) bs ≡ 10 ∷ drop 1 (drop (end_place bs) bs))
        → drop (end_place (b ∷ bs)) (b ∷ bs) ≡ 10 ∷ drop 1 (drop (end_place (b ∷ bs)) (b ∷ bs))
    go true e lt ih =
        let n = place_here b bs e in
        let ten = end_here b e in
        rw n (ap (λ (x : ℕ). x ∷ bs) ten)
    go false e lt ih =
        let n = place_later b bs e in
        rw n (ih (omega arith))
