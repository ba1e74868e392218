-- Lists that are made of the numbers in a row, for callers.
use Rattle.std.proofs.Common.{◌≡◌, ℕ, ◌+◌, ◌<◌, List, [], ◌∷◌, ◌++◌, map, sym, ap, ◌∙◌, subst}
use Rattle.std.proofs.Common.{arith}
use Rattle.std.specs.List.{All, range_with_len}
use Rattle.std.proofs.lemmas.List.FromFn.{get_or-map-range_with_len, length-map-range_with_len}
use Rattle.std.proofs.lemmas.List.FromFn.{map-range_with_len_more}

-- a list made of the numbers below n, with one made of n behind it
pub one_more : {A : Type 0} (f : ℕ → A) (n : ℕ) (old new : List A) (a : A)
    → old ≡ map f (range_with_len 0 n) → new ≡ old ++ a ∷ [] → a ≡ f n
    → new ≡ map f (range_with_len 0 (n + 1))
one_more f n old new a was is e =
    is ∙ ap (λ l. l ++ a ∷ []) was ∙ ap (λ b. map f (range_with_len 0 n) ++ b ∷ []) e
    ∙ sym (map-range_with_len_more f 0 n n (omega arith))

-- a property of the value made from each number holds for each element
pub each_made : {A : Type 0} (f : ℕ → A) (n : ℕ) (xs : List A) (P : A → Type 0)
    → xs ≡ map f (range_with_len 0 n) → ((i : ℕ) → P (f i)) → All P xs
each_made f n xs P is each = subst (All P) (sym is)
    (λ k d low. subst P
    (sym (get_or-map-range_with_len f 0 n k k d
    (subst (λ m. k < m) (length-map-range_with_len f 0 n) low) (omega arith)))
    (each k))
