-- The seats of a small moment: two.
use Rattle.std.proofs.Common.{◌≡◌, ℕ, zero, suc, [], ◌∷◌, sym, subst}
use mathlib.Core.Option.{some, some-injective, some-ne-none}
use lib.ListN.{get_elem?}
use Rattle.rcu_live.specs.Client.{ClientView}

-- a property of each of two seats
pub seated : {C : Type 0} (x y : ClientView C) (P : ℕ → ClientView C → Type 0) → P 0 x → P 1 y
    → (id : ℕ) (z : ClientView C) → get_elem? (x ∷ y ∷ []) id ≡ some z → P id z
seated x y P p q zero z e = subst (P 0) (some-injective _ _ e) p
seated x y P p q (suc zero) z e = subst (P 1) (some-injective _ _ e) q
seated x y P p q (suc (suc id)) z e = absurd (some-ne-none z (sym e))
