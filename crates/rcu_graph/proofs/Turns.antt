-- If one state after the other is turned, all are in the end.
use Rattle.std.proofs.Common.{◌≡◌, ◌≢◌, ℕ, suc, ◌<◌, Bool, true, false, List, [], ◌∷◌, length, map}
use Rattle.std.proofs.Common.{set, refl, sym, ap, ◌∙◌, arith, subst}
use Rattle.std.specs.Prelude.{if◌then◌else◌}
use Rattle.std.proofs.lemmas.List.{get_or-set_other, get_or-set_same, length-set}
use Rattle.std.proofs.Math.ListN.{get_or-map}
use Rattle.std.proofs.Math.Seq.{map-set_same}
use lib.ListN.{length-map}
use mathlib.Core.Logic.{dite}
use native.Mathlib.Decide.{ℕ_discrete}
use Rattle.rcu_seq.specs.Numbers.{Number}
use Rattle.rcu_live.specs.Numbers.{is_past}
use Rattle.rcu_graph.specs.Cycle.{IsTurn, is_over, is_unlinked, state_in, turned}
use Rattle.rcu_graph.specs.Nodes.{IsBy, reclaimed_state}
use Rattle.rcu_graph.specs.declared.node_state.NodeState.{NodeState}
use Rattle.rcu_graph.specs.declared.node_state.NodeState.TheVariants.{Free, Live, Retired, Unlinked}

module _ (is : NodeState → Bool) (to : NodeState) where
  turns : (s : NodeState) → is s ≡ true → turned is to s ≡ to
  turns s so = ap (λ (b : Bool). if b then to else s) so

  stays : (s : NodeState) → is s ≡ false → turned is to s ≡ s
  stays s so = ap (λ (b : Bool). if b then to else s) so

  target : turned is to to ≡ to
  target = go (is to)
    where
      go : (b : Bool) → (if b then to else to) ≡ to
      go true = refl
      go false = refl

  all_stay : (l : List NodeState) → ((i : ℕ) → i < length l → is (state_in l i) ≡ false)
      → map (turned is to) l ≡ l
  all_stay [] none = refl
  all_stay (s ∷ l) none =
      ap (λ (x : NodeState). x ∷ map (turned is to) l) (stays s (none 0 (omega arith)))
      ∙ ap (λ (k : List NodeState). s ∷ k) (all_stay l (λ i low. none (suc i) (omega (arith, low))))

  -- one more was turned, or all were
  pub turn_goes_on : (old new : List NodeState) (told : Bool)
      → told ≡ true → IsTurn is to old new told → map (turned is to) new ≡ map (turned is to) old
  turn_goes_on old new true e t =
      ap (λ (l : List NodeState). map (turned is to) l) t.3
      ∙ map-set_same (turned is to) old t.0 to Free (target ∙ sym (turns (state_in old t.0) t.2))
  turn_goes_on old new false e t = absurd (cc)

  pub turn_ends : (old new : List NodeState) (told : Bool)
      → told ≡ false → IsTurn is to old new told → new ≡ map (turned is to) old
  turn_ends old new true e t = absurd (cc)
  turn_ends old new false e t = t.0 ∙ sym (all_stay old t.1)

-- none is retired later than now
pub late_after : (number : Number) (old new : List NodeState) (told : Bool)
    → IsTurn is_unlinked (Retired number) old new told
    → ((i : ℕ) → i < length old → IsBy number (state_in old i))
    → (i : ℕ) → i < length new
    → IsBy number (state_in new i)
late_after number old new true t late i low =
    let many : length new ≡ length old =
    ap (λ (l : List NodeState). length l) t.3 ∙ length-set old t.0 (Retired number) in
    let new_is : state_in new i ≡ state_in (set old t.0 (Retired number)) i =
    ap (λ (l : List NodeState). state_in l i) t.3 in
    dite (ℕ_discrete i t.0)
    (λ (e : i ≡ t.0).
    let is : state_in new i ≡ Retired number =
    new_is
    ∙ (ap (λ (k : ℕ). state_in (set old t.0 (Retired number)) k) e
    ∙ get_or-set_same old t.0 (Retired number) Free t.1) in
    subst (λ (s : NodeState). IsBy number s) (sym is) (omega arith))
    (λ (ne : i ≢ t.0).
    subst (λ (s : NodeState). IsBy number s)
    (sym (new_is ∙ get_or-set_other old t.0 i (Retired number) Free ne))
    (late i (omega (arith, low, many))))
late_after number old new false t late i low =
    subst (λ (l : List NodeState). (j : ℕ) → j < length l → IsBy number (state_in l j)) (sym t.0)
    late i low

over_by : (number : Number) (s : NodeState) → IsBy number s
    → IsBy number (turned (is_over number) Free s)
over_by number Free by = tt
over_by number Live by = tt
over_by number Unlinked by = tt
over_by number (Retired at) by = go (is_past at number)
  where
    go : (b : Bool) → IsBy number (if b then Free else Retired at)
    go true = tt
    go false = by

pub late_freed : (number : Number) (l : List NodeState)
    → ((i : ℕ) → i < length l → IsBy number (state_in l i))
    → (i : ℕ) → i < length (map (turned (is_over number) Free) l)
    → IsBy number (state_in (map (turned (is_over number) Free) l) i)
late_freed number l late i low =
    subst (λ (s : NodeState). IsBy number s)
    (sym (get_or-map (turned (is_over number) Free) l i Free))
    (over_by number (state_in l i)
    (late i (subst (λ (n : ℕ). i < n) (length-map l (turned (is_over number) Free)) low)))

one_reclaims : (number : Number) (s : NodeState)
    → turned is_unlinked (Retired number) (turned (is_over number) Free s)
    ≡ reclaimed_state number number s
one_reclaims number Free = refl
one_reclaims number Live = refl
one_reclaims number Unlinked = refl
one_reclaims number (Retired at) = go (is_past at number)
  where
    go : (b : Bool)
        → turned is_unlinked (Retired number) (if b then Free else Retired at)
        ≡ (if b then Free else Retired at)
    go true = refl
    go false = refl

-- first the nodes that were retired long ago become free, and then the unlinked ones are retired:
-- that is a load of the number
pub all_reclaim : (number : Number) (l : List NodeState)
    → map (turned is_unlinked (Retired number)) (map (turned (is_over number) Free) l)
    ≡ map (reclaimed_state number number) l
all_reclaim number [] = refl
all_reclaim number (s ∷ l) =
    ap (λ (x : NodeState).
    x ∷ map (turned is_unlinked (Retired number)) (map (turned (is_over number) Free) l))
    (one_reclaims number s)
    ∙ ap (λ (k : List NodeState). reclaimed_state number number s ∷ k) (all_reclaim number l)
