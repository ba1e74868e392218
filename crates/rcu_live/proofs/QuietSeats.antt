-- For callers: a load of an own word finds what the seat stored, so a step of driving ends the
-- grace period of quiet processors.
use Rattle.std.proofs.Common.{◌≡◌, ◌⊎◌, ℕ, zero, suc, ◌+◌, ◌-◌, ◌<◌, ◌≤◌, ◌^◌, ◌&&◌, Bool, true}
use Rattle.std.proofs.Common.{false, not, List, [], ◌∷◌}
use Rattle.std.proofs.Common.{if◌then◌else◌, inl, inr, refl, sym, ap, ◌∙◌, subst, arith}
use Rattle.std.specs.Prelude.{◌==◌, slice_index}
use Rattle.std.proofs.lemmas.Bool.Decides.{nat_tests}
use mathlib.Core.Option.{Option, some, some-injective, some-ne-none}
use lib.ListN.{get_elem?}
use Rattle.atomic_table.specs.Table.{State}
use Rattle.rcu_seq.specs.Numbers.{Number}
use Rattle.rcu_seq.specs.Seq.{number_of}
use Rattle.rcu_node.specs.CpuSet.{is_in}
use Rattle.rcu_state.specs.GpState.{awaited_in}
use Rattle.rcu_live.specs.Client.{Views}
use Rattle.rcu_live.specs.Drive.{after_collections, after_drive}
use Rattle.rcu_live.specs.Engine.{Locked, after_end}
use Rattle.rcu_live.specs.Numbers.{idle_word, is_number_word, reports_quiescence}
use Rattle.rcu_live.specs.Progress.{IsQuiet, IsQuietAt, LoadsAt}
use Rattle.rcu_live.specs.Words.{own_word_index}
use Rattle.rcu_live.specs.declared.view.Role.TheVariants.{Cpu}
use Rattle.rcu_live.specs.declared.view.View.{View}
use Rattle.rcu_live.proofs.Quieting.{driven, left_awaited, moved, nobody_left}

-- which words report
reports_if : (t n word : ℕ) → is_number_word n ≡ true → n ≡ t
    → (word ≡ 0) ⊎ ((word ≡ idle_word) ⊎ ((at : ℕ) × (t ≤ at) × (word ≡ at + 1)))
    → reports_quiescence t word ≡ true
reports_if t n word k same (inl e) = grind (arith, nat_tests)
reports_if t n word k same (inr (inl e)) = grind (arith, nat_tests)
reports_if t n word k same (inr (inr q)) =
    let l = q.1 in let e = q.2 in grind (arith, nat_tests)

-- a quiescent state at an earlier number is not enough
pub not_by_earlier : (t n : ℕ) → n < t → t ≤ 2 ^ 62
    → (n + 1 ≡ 0) ⊎ ((n + 1 ≡ idle_word) ⊎ ((at : ℕ) × (t ≤ at) × (n + 1 ≡ at + 1))) → ⊥
not_by_earlier t n l b (inl e) = omega (arith, e)
not_by_earlier t n l b (inr (inl e)) = omega (arith, e, l, b)
not_by_earlier t n l b (inr (inr q)) =
    let m = q.1 in let e = q.2 in omega (arith, m, e, l)

module _ {C : Type 0} where
  -- a moment with one seat
  pub only_view : (v : View C) (id : ℕ) (w : View C) → get_elem? (v ∷ []) id ≡ some w
      → v ≡ w
  only_view v zero w at = some-injective _ _ at
  only_view v (suc id) w at = absurd (some-ne-none w (sym at))

  pub of_the_only_seat : (v : View C) (words : List ℕ) (homes : List (Option (Unit {0})))
      (t cpu : ℕ)
      → IsQuietAt (record { words = words; homes = homes; views = v ∷ [] }) t cpu → IsQuiet t v
  of_the_only_seat v words homes t cpu q =
      subst (λ w. IsQuiet t w) (sym (only_view v q.id q.seat q.here)) q.quiet

  pub not_of_another : (v : View C) (words : List ℕ) (homes : List (Option (Unit {0}))) (t cpu : ℕ)
      → (v.cpu ≡ cpu → ⊥)
      → IsQuietAt (record { words = words; homes = homes; views = v ∷ [] }) t cpu → ⊥
  not_of_another v words homes t cpu other q =
      other (ap (λ (w : View C). w.cpu) (only_view v q.id q.seat q.here) ∙ q.own)

module _ {C : Type 0} (holds : List ℕ → Views C → Type 0) (cpus : ℕ)
    (now : State (Unit {0}) (View C)) (t : Number) (cpu word : ℕ)
    (load : LoadsAt holds cpus now t cpu word) where
  pub what_is_stored : (k : ℕ) (seat : View C) → get_elem? now.views k ≡ some seat
      → seat.role ≡ Cpu → seat.cpu ≡ cpu → word ≡ seat.own_word
  what_is_stored k seat here role own =
      sym load.found
      ∙ ap (λ c. slice_index now.words (own_word_index c)) (sym own)
      ∙ ((load.kept.fits k seat here).sound role).own_word

  pub quiet_reports : IsQuietAt now t cpu → reports_quiescence t word ≡ true
  quiet_reports q =
      reports_if t (slice_index now.words 0) word load.kept.number
      (sym ((load.kept.fits load.id load.engine load.here).number load.role) ∙ load.number)
      (subst
      (λ w. (w ≡ 0) ⊎ ((w ≡ idle_word) ⊎ ((at : ℕ) × (t ≤ at) × (w ≡ at + 1))))
      (sym (what_is_stored q.id q.seat q.here q.role q.own)) q.quiet)

  pub only_quiet_reports : (k : ℕ) (seat : View C) → get_elem? now.views k ≡ some seat
      → seat.role ≡ Cpu → seat.cpu ≡ cpu → reports_quiescence t word ≡ true → IsQuiet t seat
  only_quiet_reports k seat here role own told =
      let stored = what_is_stored k seat here role own in
      elim (which word told) [
        | inl e ↦ inl (sym stored ∙ e)
        | inr l ↦ inr (inr (seat.own_word - 1, omega (arith, l, stored), omega (arith, l, stored)))
      ]
    where
      which : (w : ℕ) → reports_quiescence t w ≡ true → (w ≡ 0) ⊎ (t < w)
      which w told = grind (arith, nat_tests)

module _ {C X : Type 0} where
  -- the awaited processors of a step of driving are those left by its collection
  awaited_driven : (e : Locked C X) (wanted : Bool) (word : ℕ → ℕ) (c : ℕ)
      → e.grace.seq.running ≡ true
      → is_in (after_drive e wanted word).grace.processors.awaited c
      ≡ is_in (after_collections e word).grace.processors.awaited c
  awaited_driven e wanted word c runs =
      let driven = λ (x : Locked C X).
      if x.grace.seq.running && (awaited_in x.grace == 0) then after_end x else x in
      ap (λ (x : Locked C X). is_in (driven x).grace.processors.awaited c)
      (moved e wanted word runs)
      ∙ either ((after_collections e word).grace.seq.running
      && (awaited_in (after_collections e word).grace == 0)) (after_collections e word)
    where
      either : (b : Bool) (x : Locked C X)
          → is_in (if b then after_end x else x).grace.processors.awaited c
          ≡ is_in x.grace.processors.awaited c
      either true x = refl
      either false x = refl

  -- it ends the grace period if each of them is quiet
  pub quiet_ends : (e : Locked C X) (wanted : Bool) (word : ℕ → ℕ) → e.grace.seq.running ≡ true
      → ((c : ℕ) → is_in e.grace.processors.awaited c ≡ true
      → reports_quiescence (number_of e.grace.seq) (word c) ≡ true)
      → (after_drive e wanted word).grace.seq
      ≡ record e.grace.seq { ends = e.grace.seq.ends + 1; running = false }
  quiet_ends e wanted word runs told =
      ap (λ (x : Locked C X). x.grace.seq) (driven e wanted word runs (nobody_left e word told))

  -- if one is still awaited, it was not quiet
  pub held_up : (holds : List ℕ → Views C → Type 0) (now : State (Unit {0}) (View C))
      (e : Locked C X) (wanted : Bool) (word : ℕ → ℕ) (c : ℕ)
      → e.grace.seq.running ≡ true
      → LoadsAt holds e.cpus now (number_of e.grace.seq) c (word c)
      → is_in (after_drive e wanted word).grace.processors.awaited c ≡ true
      → IsQuietAt now (number_of e.grace.seq) c
      → ⊥
  held_up holds now e wanted word c runs load awaited quiet =
      let told = quiet_reports holds e.cpus now (number_of e.grace.seq) c (word c) load quiet in
      let still =
      sym (left_awaited e word c) ∙ sym (awaited_driven e wanted word c runs) ∙ awaited in
      untold (is_in e.grace.processors.awaited c)
      (reports_quiescence (number_of e.grace.seq) (word c)) told still
    where
      untold : (a b : Bool) → b ≡ true → (a && not b) ≡ true → ⊥
      untold true true i k = cc
      untold true false i k = cc
      untold false b i k = cc
