-- Lists that are made of the numbers in a row.
use Rattle.std.proofs.Common.{◌≡◌, ℕ, suc, ◌+◌, ◌-◌, ◌<◌, List, [], ◌∷◌, map, sym, ap, ◌∙◌, arith}
use Rattle.std.specs.List.{range_with_len}

-- the first of the values made from the numbers from i up to n, and the others
first : {A : Type 0} (f : ℕ → A) (i n : ℕ) → i < n
    → map f (range_with_len i (n - i)) ≡ f i ∷ map f (range_with_len (i + 1) (n - (i + 1)))
first f i n low =
    let e : n - i ≡ suc (n - (i + 1)) = omega arith in ap (λ k. map f (range_with_len i k)) e

abbrev head_or : {A : Type 0} → A → List A → A
head_or x [] = x
head_or x (y ∷ ys) = y

abbrev tail_of : {A : Type 0} → List A → List A
tail_of [] = []
tail_of (y ∷ ys) = ys

-- the value that comes first
pub one_came : {A : Type 0} (f : ℕ → A) (i n : ℕ) (l left : List A) (x : A) → i < n
    → l ≡ map f (range_with_len i (n - i)) → l ≡ x ∷ left → x ≡ f i
one_came f i n l left x low made is = ap (head_or x) (sym is ∙ made ∙ first f i n low)

-- and the values that are left
pub others_left : {A : Type 0} (f : ℕ → A) (i n : ℕ) (l left : List A) (x : A) → i < n
    → l ≡ map f (range_with_len i (n - i)) → l ≡ x ∷ left
    → left ≡ map f (range_with_len (i + 1) (n - (i + 1)))
others_left f i n l left x low made is = ap tail_of (sym is ∙ made ∙ first f i n low)
