use Rattle.std.proofs.Common.{◌≡◌, ◌<◌, ◌+◌, ℕ, List, [], ◌∷◌, ap, arith, length, refl}
use Rattle.rcu_live.proofs.definition_laws.a_part_is_set_and_has_its_place.Goals as goal

pub returns-clause-set : goal.returns-clause-set
returns-clause-set g = λ is. let same : ◌≡◌ {A = ℕ} 0 1 = is.got 0 1 in absurd (cc)

pub returns-clause-place : goal.returns-clause-place
returns-clause-place g = λ is.
    let low : 1 + 0 < 1 = is.inside (0 ∷ []) [] 0 refl (omega arith) in absurd (omega (arith, low))

pub returns-clause-word : goal.returns-clause-word
returns-clause-word g = λ words xs is.
    let many : length words ≡ 1 = ap (λ (l : List ℕ). length l) is in omega (arith, many)

pub returns-clause-no_word : goal.returns-clause-no_word
returns-clause-no_word g = λ own.
    let low : 1 < 1 = own (0 ∷ []) [] refl in absurd (omega (arith, low))
