-- Sums over the shares of a ledger.
use Rattle.std.proofs.Common.{◌≡◌, ℕ, ◌+◌, ◌≤◌, List, [], ◌∷◌, ◌++◌, ◌∙◌, ap, arith, length, sum_by}
use Rattle.std.proofs.Common.{sym, take}
use Rattle.std.specs.List.{flat_map}
use Rattle.std.proofs.lemmas.List.{append-nil, take_all}
use Rattle.std.proofs.lemmas.List.Concat.{flat_map-append, length-flat_map}
use Rattle.std.proofs.lemmas.List.Sums.{sum_by-append, sum_by-cons}
use Rattle.rcu_stress.specs.Ledger.{Account, Counts, ids_in, parts, ran_in}

-- a sum over the first shares, if there are no more, and the program's own
pub sum_in-from_first : (f : Counts → ℕ) (a : Account) (xs : List Counts) (i n m : ℕ)
    → xs ≡ a.shares → length xs ≤ i → n ≡ sum_by f (take i xs) → m ≡ n + f a.own
    → m ≡ sum_by f (parts a)
sum_in-from_first f a xs i n m same all first last =
    let whole = ap (sum_by f) (take_all i xs all ∙ same) in
    omega (arith, sum_by-append f a.shares (a.own ∷ []), sum_by-cons f a.own [])

-- the same of all ids
pub ids_in-from_first : (a : Account) (xs : List Counts) (i : ℕ) (first ids : List ℕ)
    → xs ≡ a.shares
    → length xs ≤ i
    → first ≡ flat_map (λ s. s.ids) (take i xs)
    → ids ≡ first ++ a.own.ids
    → ids ≡ ids_in a
ids_in-from_first a xs i first ids same all is last =
    last ∙ ap (λ zs. zs ++ a.own.ids) (is ∙ ap (flat_map (λ s. s.ids)) (take_all i xs all ∙ same))
    ∙ ap (λ zs. flat_map (λ s. s.ids) a.shares ++ zs) (sym (append-nil a.own.ids))
    ∙ sym (flat_map-append (λ s. s.ids) a.shares (a.own ∷ []))

-- as many callbacks were handed out as there are ids
pub ran_in-is : (a : Account) → length (ids_in a) ≡ ran_in a
ran_in-is a = length-flat_map (λ s. s.ids) (parts a)
