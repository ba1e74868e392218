-- Reads after a write of one item.
use Rattle.std.proofs.Common.{◌≡◌, ℕ, ◌<◌, Bool, true, false, cond, ◌||◌, List, length, refl, sym}
use Rattle.std.proofs.Common.{subst, ◌∙◌, arith, eqb, get_or, slice_set, ne_eqb, inl, inr}
use Rattle.std.proofs.lemmas.Bool.Decides.{nat_tests}
use Rattle.std.proofs.lemmas.Bool.{cases_eq}
use Rattle.std.proofs.lemmas.List.{get_or-set_same, get_or-set_other}

pub eqb_self : (c : ℕ) → eqb c c ≡ true
eqb_self c = grind (arith, nat_tests)

-- one item is written, and the others stay
pub one_written : {X : Type 0} (d : X) (xs : List X) (c : ℕ) (x : X) (f g : ℕ → X) → c < length xs
    → ((k : ℕ) → get_or xs k d ≡ f k) → g c ≡ x
    → ((k : ℕ) → eqb c k ≡ false → g k ≡ f k) → (k : ℕ) → get_or (slice_set xs c x) k d ≡ g k
one_written {X} d xs c x f g l h at other k = elim (cases_eq k c) [
  | inl i ↦ subst (λ (j : ℕ). get_or (slice_set xs c x) j d ≡ g j) (sym i)
      (get_or-set_same xs c x d l ∙ sym at)
  | inr n ↦ get_or-set_other xs c k x d n ∙ h k ∙ sym (other k (ne_eqb c k (λ i. n (sym i))))
]

-- a flag is set, if it is not set already
pub marked : (set : Bool) (xs : List Bool) (c k : ℕ) → c < length xs → get_or xs c false ≡ set
    → get_or (cond set xs (slice_set xs c true)) k false ≡ (eqb c k || get_or xs k false)
marked true xs c k l e = elim (cases_eq k c) [
  | inl i ↦ rw (i, e, eqb_self c) refl
  | inr n ↦ rw (ne_eqb c k (λ i. n (sym i))) refl
]
marked false xs c k l e = elim (cases_eq k c) [
  | inl i ↦ rw (i, eqb_self c) (get_or-set_same xs c true false l)
  | inr n ↦ get_or-set_other xs c k true false n ∙ rw (ne_eqb c k (λ i. n (sym i))) refl
]
