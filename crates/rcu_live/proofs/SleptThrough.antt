-- No quiescent state is slept through: the moments of a run, and moments that no run has.
use Rattle.std.proofs.Common.{◌≡◌, ℕ, zero, suc, ◌≤◌, List, [], ◌∷◌, true, ⊎_elim, refl, sym}
use Rattle.std.proofs.Common.{ap, arith}
use mathlib.Core.Option.{some, some-injective, some-ne-none}
use lib.ListN.{get_elem?}
use Rattle.atomic_table.specs.Table.{State}
use Rattle.rcu_live.specs.Asking.{IsAwake, IsLastAsking}
use Rattle.rcu_live.specs.View.{after_asked_load, after_store, after_take_back, after_waking}
use Rattle.rcu_live.specs.View.{asking_of, cpu_seat}
use Rattle.rcu_live.specs.declared.view.Role.TheVariants.{Asker}
use Rattle.rcu_live.specs.declared.view.View.{View}
use Rattle.rcu_live.proofs.Askings.{alike_looked, alike_stored, awake_asks, awake_at_first}
use Rattle.rcu_live.proofs.Askings.{awake_back, awake_still}

-- the moments of a run: a processor is asked, its seat stores, a look finds it asked, and the seat
-- takes the asking back
abbrev Three : Type 0
Three = View (Unit {0})

abbrev seat : Three
seat = cpu_seat 0 1 tt

abbrev stored : Three
stored = after_store seat 5

abbrev asking : Three
asking = asking_of 1 0 0 tt

abbrev moment : ℕ → List Three → State (Unit {0}) Three
moment asked views = record { words = 0 ∷ asked ∷ []; homes = []; views = views }

-- a list of one seat
alone : (v : Three) (j : ℕ) (u : Three) → get_elem? (v ∷ []) j ≡ some u → v ≡ u
alone v zero u here = some-injective _ _ here
alone v (suc j) u here = absurd (some-ne-none u (sym here))

pub is_asked : IsAwake (moment 2 (seat ∷ asking ∷ []))
is_asked =
    awake_asks (moment 0 (seat ∷ [])) (awake_at_first (0 ∷ 0 ∷ []) [] seat refl) asking
    (0 ∷ 2 ∷ []) [] refl
    (λ j u here role cpu. ap (λ (x : Three). x.stores) (alone seat j u here)) refl

pub is_stored : IsAwake (moment 2 (stored ∷ asking ∷ []))
is_stored =
    awake_still (moment 2 (seat ∷ asking ∷ [])) is_asked 0 seat stored (0 ∷ 2 ∷ []) [] refl refl
    (alike_stored seat stored refl refl refl 2)

pub is_answered : IsAwake (moment 0 (after_waking true stored ∷ asking ∷ []))
is_answered =
    let looked : IsAwake (moment 2 (after_asked_load stored true ∷ asking ∷ [])) =
    awake_still (moment 2 (stored ∷ asking ∷ [])) is_stored 0 stored
    (after_asked_load stored true) (0 ∷ 2 ∷ []) [] refl refl (alike_looked stored 2 refl) in
    awake_back (moment 2 (after_asked_load stored true ∷ asking ∷ [])) looked 0
    (after_take_back (after_asked_load stored true)) (0 ∷ 0 ∷ []) [] refl

-- the second seat is the latest asking
second_is_last : (first : Three) → IsLastAsking (first ∷ asking ∷ []) 1 asking
second_is_last first = record { here = refl; role = refl; last = at_most_second }
  where
    at_most_second : (other : ℕ) (v : Three) → get_elem? (first ∷ asking ∷ []) other ≡ some v
        → v.role ≡ Asker → other ≤ 1
    at_most_second zero v at role = omega arith
    at_most_second (suc zero) v at role = omega arith
    at_most_second (suc (suc n)) v at role = absurd (some-ne-none v (sym at))

pub none_slept_through : IsAwake (moment 2 (after_waking true stored ∷ asking ∷ [])) → ⊥
none_slept_through k =
    let same =
    k.unreported 1 0 asking (after_waking true stored) (second_is_last (after_waking true stored))
    refl refl refl refl refl in
    absurd (omega (arith, same))

pub none_from_nowhere : IsAwake (moment 3 (seat ∷ asking ∷ [])) → ⊥
none_from_nowhere k =
    ⊎_elim (λ e. absurd (omega (arith, e))) (λ e. absurd (omega (arith, e)))
    (k.stands 1 asking (second_is_last seat))
