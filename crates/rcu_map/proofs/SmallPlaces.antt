-- In the small run the place of a link determines its node.
use Rattle.std.proofs.Common.{◌≡◌, ℕ, zero, suc, ◌+◌, ◌*◌, ◌-◌, ◌<◌, Bool, refl, sym, ap, ◌∙◌}
use Rattle.std.proofs.Common.{arith}
use Rattle.std.specs.Prelude.{if◌then◌else◌, nat_lt}
use Rattle.rcu_graph.specs.Nodes.{place_of}
use Rattle.rcu_graph.proofs.FirstNodes.{not_below}

-- of three cells of a node
pub three : (P : ℕ → Type 0) → P 0 → P 1 → P 2 → (k : ℕ) → k < 3 → P k
three P p q r zero low = p
three P p q r (suc zero) low = q
three P p q r (suc (suc zero)) low = r
three P p q r (suc (suc (suc k))) low = absurd (omega (arith, low))

-- a node that is no root has a row of three cells
in_row : (i k : ℕ) → place_of 2 1 2 (suc (suc i)) k ≡ 16 + 3 * suc (suc i) + k
in_row i k = ap (λ (b : Bool). if b
    then (if nat_lt k 1 then 16 + 1 * suc (suc i) + k
    else 16 + 1 * 2 + 2 * suc (suc i) + (k - 1))
    else 16 + 3 * suc (suc i) + k)
    (not_below (suc (suc i)) 2 (omega arith))

abbrev Told : ℕ → ℕ → ℕ → ℕ → Type 0
Told place n i k = place ≡ place_of 2 1 2 i k → (n ≡ i) × (0 ≡ k)

told_row : (n i k : ℕ) → k < 3 → Told (16 + 3 * suc (suc n) + 0) (suc (suc n)) i k
told_row n zero k low at = absurd (three
    (λ k. 16 + 3 * suc (suc n) + 0 ≡ place_of 2 1 2 0 k → ⊥)
    (λ e. omega (arith, e)) (λ e. omega (arith, e)) (λ e. omega (arith, e)) k low at)
told_row n (suc zero) k low at = absurd (three
    (λ k. 16 + 3 * suc (suc n) + 0 ≡ place_of 2 1 2 1 k → ⊥)
    (λ e. omega (arith, e)) (λ e. omega (arith, e)) (λ e. omega (arith, e)) k low at)
told_row n (suc (suc i)) k low at =
    let e = at ∙ in_row i k in (omega (arith, e, low), omega (arith, e, low))

told_first : (i k : ℕ) → k < 3 → Told 16 0 i k
told_first zero k low = three (Told 16 0 0) (λ e. (refl, refl)) (λ e. absurd (omega (arith, e)))
    (λ e. absurd (omega (arith, e))) k low
told_first (suc zero) k low = three (Told 16 0 1) (λ e. absurd (omega (arith, e)))
    (λ e. absurd (omega (arith, e))) (λ e. absurd (omega (arith, e))) k low
told_first (suc (suc i)) k low = λ at. let e = at ∙ in_row i k in absurd (omega (arith, e))

told_second : (i k : ℕ) → k < 3 → Told 17 1 i k
told_second zero k low = three (Told 17 1 0) (λ e. absurd (omega (arith, e)))
    (λ e. absurd (omega (arith, e))) (λ e. absurd (omega (arith, e))) k low
told_second (suc zero) k low = three (Told 17 1 1) (λ e. (refl, refl))
    (λ e. absurd (omega (arith, e))) (λ e. absurd (omega (arith, e))) k low
told_second (suc (suc i)) k low = λ at. let e = at ∙ in_row i k in absurd (omega (arith, e))

pub told : (n i k : ℕ) → k < 3 → Told (place_of 2 1 2 n 0) n i k
told zero i k low = told_first i k low
told (suc zero) i k low = told_second i k low
told (suc (suc n)) i k low = λ at. told_row n i k low (sym (in_row n 0) ∙ at)
