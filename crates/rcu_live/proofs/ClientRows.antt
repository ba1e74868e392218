-- For callers: lemmas on a client's words in rows, on a seat that changes, and on an open section.
use Rattle.std.proofs.Common.{◌≡◌, ◌≢◌, ◌⊎◌, ℕ, zero, suc, ◌+◌, ◌*◌, ◌<◌, ◌≤◌, true, List, [], ◌∷◌}
use Rattle.std.proofs.Common.{length, get_or, refl, sym, ap, subst, ⊎_elim, inl, inr, arith}
use Rattle.std.specs.Prelude.{slice_set}
use Rattle.std.proofs.Math.Nat.{mul-suc}
use Rattle.std.proofs.lemmas.Bool.Decides.{nat_tests}
use Rattle.std.proofs.lemmas.Nat.{mul-le}
use mathlib.Core.Option.{some, some-ne-none}
use mathlib.Core.Logic.{dite}
use native.Mathlib.Decide.{ℕ_discrete}
use lib.ListN.{get_elem?}
use Rattle.atomic_table.proofs.Lists.{at_set}
use Rattle.rcu_seq.specs.Numbers.{Number}
use Rattle.rcu_live.specs.Numbers.{is_open_at}

-- a section that may be open at a number began by then
pub open_began : (n at : Number) → is_open_at n at ≡ true → at ≤ n
open_began n at o = grind (arith, nat_tests)

pub inside : {A : Type 0} (l : List A) (i : ℕ) (a : A) → get_elem? l i ≡ some a → i < length l
inside [] i a e = absurd (some-ne-none a (sym e))
inside (x ∷ xs) zero a e = omega arith
inside (x ∷ xs) (suc i) a e = let h = inside xs i a e in omega (arith, h)

-- an element inside a list is the one that is read there with a default
pub at_inside : {A : Type 0} (l : List A) (i : ℕ) (d : A) → i < length l
    → get_elem? l i ≡ some (get_or l i d)
at_inside [] i d low = absurd (omega (arith, low))
at_inside (x ∷ xs) zero d low = refl
at_inside (x ∷ xs) (suc i) d low = at_inside xs i d (omega (arith, low))

-- one element changes, and a property of the others stays
pub reseat : {A : Type 0} (K : ℕ → A → Type 0) (xs : List A) (id : ℕ) (p : A) → K id p
    → ((j : ℕ) (q : A) → j ≢ id → get_elem? xs j ≡ some q → K j q)
    → (j : ℕ) (q : A) → get_elem? (slice_set xs id p) j ≡ some q → K j q
reseat {A} K xs id p mine others j q e = ⊎_elim
    (λ (t : (j ≡ id) × (p ≡ q)). subst (λ (y : ℕ × A). K y.0 y.1) (λ i. (sym t.0 i, t.1 i)) mine)
    (λ (t : (j ≢ id) × (get_elem? xs j ≡ some q)). others j q t.0 t.1)
    (at_set xs id j p q e)

-- a row is before those of greater numbers
row_below : (width i j : ℕ) → i < j → width * i + width ≤ width * j
row_below width i j low =
    let up : width * suc i ≤ width * j =
    mul-le width (suc i) width j (omega arith) (omega (arith, low)) in
    let more : width * suc i ≡ width * i + width = mul-suc width i in
    omega (arith, up, more)

lower_or_higher : (i j : ℕ) → i ≢ j → (i < j) ⊎ (j < i)
lower_or_higher zero zero apart = absurd (apart refl)
lower_or_higher zero (suc j) apart = inl (omega arith)
lower_or_higher (suc i) zero apart = inr (omega arith)
lower_or_higher (suc i) (suc j) apart = ⊎_elim
    (λ (h : i < j). inl (omega (arith, h)))
    (λ (h : j < i). inr (omega (arith, h)))
    (lower_or_higher i j (λ e. apart (ap suc e)))

-- rows of this number of words, one behind the other from a first place on: each word has a place
-- of its own, inside all rows
module _ (first width : ℕ) where
  pub places_differ : (i j k l : ℕ) → i ≢ j → k < width → l < width
      → first + width * i + k ≢ first + width * j + l
  places_differ i j k l apart low high same = ⊎_elim
      (λ (h : i < j). let row = row_below width i j h in absurd (omega (arith, row, low, same)))
      (λ (h : j < i). let row = row_below width j i h in absurd (omega (arith, row, high, same)))
      (lower_or_higher i j apart)

  pub place_inside : (count i k : ℕ) → i < count → k < width
      → first + width * i + k < first + width * count
  place_inside count i k low small =
      let row = row_below width i count low in omega (arith, row, small)

  -- and so the place determines the row and the word
  pub row_told : (i j k l : ℕ)
      → k < width → l < width → first + width * i + k ≡ first + width * j + l → i ≡ j
  row_told i j k l low high same = dite (ℕ_discrete i j)
      (λ (e : i ≡ j). e)
      (λ (apart : i ≢ j). absurd (places_differ i j k l apart low high same))

  pub word_told : (i j k l : ℕ) → i ≡ j → first + width * i + k ≡ first + width * j + l → k ≡ l
  word_told i j k l e same =
      let rows : width * i ≡ width * j = ap (λ (n : ℕ). width * n) e in omega (arith, rows, same)
