-- While a section stays open, nothing that was deferred since is done.
use Rattle.std.proofs.Common.{◌≡◌, ℕ, suc, false, ◌≤◌, ◌⊎◌, List, [], ◌∷◌, ◌++◌, length, drop}
use Rattle.std.proofs.Common.{get_or, ap, sym, ◌∙◌, append_assoc, length-append, arith, inl, inr}
use Rattle.std.specs.Prelude.{All, Some, slice_index}
use mathlib.Core.Option.{some}
use lib.ListN.{get_elem?}
use Rattle.atomic_table.specs.Table.{State}
use Rattle.std.proofs.lemmas.List.{map-append}
use Rattle.std.proofs.lemmas.Bool.{cases_lt}
use Rattle.std.proofs.lemmas.Bool.Decides.{nat_tests}
use Rattle.rcu_seq.specs.Numbers.{Number, snapshot}
use Rattle.rcu_seq.specs.Tags.{cookie_at, is_done_first, of_first_epoch}
use Rattle.rcu_live.specs.Client.{Views}
use Rattle.rcu_live.specs.Rule.{IsKept}
use Rattle.rcu_live.specs.declared.view.Role.TheVariants.{Cpu}
use Rattle.rcu_live.specs.declared.view.View.{View}
use Rattle.rcu_defer.specs.Histories.{Call, Defer, Tend, Take, HasWaited, deferred_in, marks_after}
use Rattle.rcu_defer.specs.Moments.{HasOpen, IsMoment, Moment, calls_of}
use Rattle.rcu_defer.proofs.Waits.{done_has_waited}

module _ {A : Type 0} where
  -- a list made of two parts has an item in its first part, or in its second
  split_at : (a b c d : List A) (x : A) → a ++ b ≡ c ++ x ∷ d →
      ((r : List A) × (a ≡ c ++ x ∷ r)) ⊎ ((r : List A) × (b ≡ r ++ x ∷ d))
  split_at [] b c d x h = inr (c, h)
  split_at (y ∷ a) b [] d x h = inl (a, ap (λ z. z ∷ a) (ap (λ l. get_or l 0 x) h))
  split_at (y ∷ a) b (z ∷ c) d x h = elim (split_at a b c d x (ap (λ l. drop 1 l) h)) [
    | inl first ↦ inl (
      first.0,
      ap (λ l. y ∷ l) first.1 ∙ ap (λ w. w ∷ (c ++ x ∷ first.0)) (ap (λ l. get_or l 0 x) h),
    )
    | inr second ↦ inr second
  ]

module _ {X : Type 0} where
  -- more calls defer no less
  deferred_more : (later earlier : List (Call X)) →
      length (deferred_in earlier) ≤ length (deferred_in (later ++ earlier))
  deferred_more [] earlier = omega arith
  deferred_more (Defer x ∷ later) earlier =
      let e = deferred_more later earlier in
      omega (arith, length-append (deferred_in (later ++ earlier)) (x ∷ []))
  deferred_more (Tend n ∷ later) earlier = deferred_more later earlier
  deferred_more (Take most ∷ later) earlier = deferred_more later earlier

module _ {C X : Type 0} where
  -- the moment of a call
  record Found (P Q : Moment C X → Type 0) (call : Call X) : Type 0 where
    moment : Moment C X
    first : P moment
    second : Q moment
    is : moment.call ≡ call

  found : (P Q : Moment C X → Type 0) (moments : List (Moment C X)) (c d : List (Call X))
      (x : Call X)
      → All P moments
      → All Q moments
      → calls_of moments ≡ c ++ x ∷ d
      → Found P Q x
  found P Q [] c d x p q h =
      absurd (let e = ap length h in omega (arith, length-append c (x ∷ d)))
  found P Q (m ∷ ms) [] d x p q h = record {
    moment = m;
    first = p 0 m (omega arith);
    second = q 0 m (omega arith);
    is = ap (λ l. get_or l 0 x) h;
  }
  found P Q (m ∷ ms) (y ∷ c) d x p q h =
      found P Q ms c d x (λ k e low. p (suc k) e (omega arith))
      (λ k e low. q (suc k) e (omega arith)) (ap (λ l. drop 1 l) h)

-- a number that is reached is not one that is not
reached_not : (taken now : Number)
    → is_done_first (cookie_at (of_first_epoch taken)) now ≡ false → snapshot taken ≤ now → ⊥
reached_not taken now waits reached = grind (arith, nat_tests)

module _ {C : Type 0} where
  -- the law of sections and cookies
  abbrev pub FinishesBeforeDone : (List ℕ → Views C → Type 0) → Type 0
  FinishesBeforeDone holds =
      (cpus : ℕ) (before after : State (Unit {0}) (View C)) (i j : ℕ) (first later : View C)
      (at : ℕ)
      → IsKept holds cpus before
      → IsKept holds cpus after
      → get_elem? before.views i ≡ some first
      → first.role ≡ Cpu
      → first.section ≡ Some at
      → get_elem? after.views j ≡ some later
      → later.role ≡ Cpu
      → later.section ≡ Some at
      → is_done_first (cookie_at (of_first_epoch (slice_index before.words 0)))
      (slice_index after.words 0)
      ≡ false

module _ {C X : Type 0} where
  -- a section is open when a deferral is marked, and when that is done
  both_open : (holds : List ℕ → Views C → Type 0)
      → FinishesBeforeDone holds
      → (cpus seat : ℕ) (at marked now : Number)
      → Found {X = X} (IsMoment holds cpus) (HasOpen seat at) (Tend marked)
      → Found {X = X} (IsMoment holds cpus) (HasOpen seat at) (Tend now)
      → snapshot marked ≤ now
      → ⊥
  both_open holds law cpus seat at marked now first later reached =
      let a = first.second in
      let b = later.second in
      let p = first.first.number marked first.is in
      let q = later.first.number now later.is in
      reached_not (slice_index first.moment.state.words 0) (slice_index later.moment.state.words 0)
      (law cpus first.moment.state later.moment.state seat seat a.view b.view at first.first.kept
      later.first.kept a.is a.cpu a.section b.is b.cpu b.section)
      (omega arith)

  -- a deferral of these moments has waited
  early : (holds : List ℕ → Views C → Type 0)
      → FinishesBeforeDone holds
      → (cpus seat : ℕ) (at : Number) (later earlier : List (Moment C X))
      → All (IsMoment holds cpus) later
      → All (HasOpen seat at) later
      → HasWaited (calls_of (later ++ earlier)) (length (deferred_in (calls_of earlier)))
      → ⊥
  early holds law cpus seat at later earlier kept held h =
      let newer = h.later ++ Tend h.now ∷ h.between in
      let joined : calls_of later ++ calls_of earlier ≡ newer ++ Tend h.at ∷ h.earlier =
      sym (map-append (λ (m : Moment C X). m.call) later earlier)
      ∙ (h.is ∙ sym (append_assoc h.later (Tend h.now ∷ h.between) (Tend h.at ∷ h.earlier))) in
      elim (split_at (calls_of later) (calls_of earlier) newer h.earlier (Tend h.at) joined) [
        | inl inside ↦
            both_open holds law cpus seat at h.at h.now
            (found (IsMoment holds cpus) (HasOpen seat at) later newer inside.0 (Tend h.at) kept
            held inside.1)
            (found (IsMoment holds cpus) (HasOpen seat at) later h.later
            (h.between ++ Tend h.at ∷ inside.0) (Tend h.now) kept held
            (inside.1 ∙ append_assoc h.later (Tend h.now ∷ h.between) (Tend h.at ∷ inside.0)))
            h.reached
        | inr behind ↦
            let low = h.before in
            let more = deferred_more behind.0 (Tend h.at ∷ h.earlier) in
            let same = ap (λ calls. length (deferred_in calls)) behind.1 in
            absurd (omega arith)
      ]

  -- so no more are done than were deferred before
  pub none_done : (holds : List ℕ → Views C → Type 0)
      → FinishesBeforeDone holds
      → (cpus seat : ℕ) (at : Number) (later earlier : List (Moment C X))
      → All (IsMoment holds cpus) later
      → All (HasOpen seat at) later
      → (marks_after (calls_of (later ++ earlier))).done ≤ length (deferred_in (calls_of earlier))
  none_done holds law cpus seat at later earlier kept held =
      let calls = calls_of (later ++ earlier) in
      let before = length (deferred_in (calls_of earlier)) in
      elim (cases_lt before (marks_after calls).done) [
        | inl more ↦ absurd (early holds law cpus seat at later earlier kept held
            (done_has_waited calls before more))
        | inr none ↦ none
      ]
