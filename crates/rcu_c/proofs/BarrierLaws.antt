-- A step of waiting for a barrier is a run.
use Rattle.std.proofs.Common.{◌≡◌, ℕ, zero, suc, ◌≤◌, ◌++◌, Bool, true, false, List, [], ◌∷◌}
use Rattle.std.proofs.Common.{append_assoc, refl, ap, ◌∙◌, arith, if◌then◌else◌}
use Rattle.std.specs.Prelude.{◌==◌}
use Rattle.std.proofs.lemmas.Bool.Decides.{nat_tests}
use Rattle.rcu_barrier.specs.Lists.{AllLists, barrier_left, barrier_test_answer}
use Rattle.rcu_barrier.specs.declared.lists.BarrierState.TheVariants as state
use Rattle.rcu_live.specs.Drive.{after_collections, after_drive, moved_on, wants_begin}
use Rattle.rcu_live.specs.Engine.{Locked, after_begin, after_end}
use Rattle.rcu_live.specs.Runs.{BarrierBegin, Call, IsRun}
use Rattle.rcu_live.specs.Runs.{engine_after, queued_before_barrier}
use Rattle.rcu_c.specs.Answers.{left_of}
use Rattle.rcu_c.specs.BarrierSteps.{after_driving, before_drive, begun, step_answer, tends, visits}
use Rattle.rcu_c.specs.BarrierSteps.{whole_step}
use Rattle.rcu_c.proofs.BarrierRuns.{appended, as_many, as_many_tended, same_barrier, still_runs}

module _ {C X : Type 0} where
  begins : (e : Locked C X) (b : Bool) → e.grace.lists.running ≡ b
      → IsRun e (if b then [] else BarrierBegin ∷ [])
  begins e true is = tt
  begins e false is = (is, tt)

  begun_runs : (e : Locked C X) (b : Bool) → e.grace.lists.running ≡ b
      → (engine_after e (if b then [] else BarrierBegin ∷ [])).grace.lists.running ≡ true
  begun_runs e true is = is
  begun_runs e false is = refl

  begun_cpus : (e : Locked C X) (b : Bool)
      → (engine_after e (if b then [] else BarrierBegin ∷ [])).cpus ≡ e.cpus
  begun_cpus e true = refl
  begun_cpus e false = refl

  running_at : (e : Locked C X) (n : ℕ)
      → (engine_after e (visits n ++ begun e)).grace.lists.running ≡ true
  running_at e n =
      ap (λ (x : Locked C X). x.grace.lists.running) (appended e (visits n) (begun e))
      ∙ still_runs (engine_after e (begun e)) n (begun_runs e e.grace.lists.running refl)

  pub cpus_at : (e : Locked C X) (n : ℕ) → (engine_after e (visits n ++ begun e)).cpus ≡ e.cpus
  cpus_at e n =
      ap (λ (x : Locked C X). x.cpus) (appended e (visits n) (begun e))
      ∙ as_many (engine_after e (begun e)) n
      ∙ begun_cpus e e.grace.lists.running

  -- so far as it has visited
  pub visits_are_a_run : (e : Locked C X) (n : ℕ) → n ≤ e.cpus → IsRun e (visits n ++ begun e)
  visits_are_a_run e zero few = begins e e.grace.lists.running refl
  visits_are_a_run e (suc n) few =
      let cpus = cpus_at e n in
      ((omega (arith, few, cpus), running_at e n), visits_are_a_run e n (omega (arith, few)))

  pub cpus_tended : (e : Locked C X) (n : ℕ)
      → (engine_after e (tends n ++ (visits e.cpus ++ begun e))).cpus ≡ e.cpus
  cpus_tended e n =
      ap (λ (x : Locked C X). x.cpus) (appended e (tends n) (visits e.cpus ++ begun e))
      ∙ as_many_tended (engine_after e (visits e.cpus ++ begun e)) n ∙ cpus_at e e.cpus

  tends_are_a_run : (e : Locked C X) (n : ℕ) → n ≤ e.cpus
      → IsRun e (tends n ++ (visits e.cpus ++ begun e))
  tends_are_a_run e zero few = visits_are_a_run e e.cpus (omega arith)
  tends_are_a_run e (suc n) few =
      let cpus = cpus_tended e n in
      (omega (arith, few, cpus), tends_are_a_run e n (omega (arith, few)))

  -- up to the step of driving
  pub ready_is_a_run : (e : Locked C X) → IsRun e (before_drive e)
  ready_is_a_run e = tends_are_a_run e e.cpus (omega arith)

  running_before : (e : Locked C X) → (engine_after e (before_drive e)).grace.lists.running ≡ true
  running_before e =
      ap (λ (x : Locked C X). x.grace.lists.running)
      (appended e (tends e.cpus) (visits e.cpus ++ begun e))
      ∙ same_barrier (engine_after e (visits e.cpus ++ begun e)) e.cpus
      ∙ running_at e e.cpus

  either_way : (lists : AllLists X) (b : Bool) (x y : Locked C X)
      → x.grace.lists ≡ lists → y.grace.lists ≡ lists → (if b then x else y).grace.lists ≡ lists
  either_way lists true x y left right = left
  either_way lists false x y left right = right

  -- a step of driving changes no list
  same_lists : (e : Locked C X) (is_wanted : Bool) (word : ℕ → ℕ)
      → (after_drive e is_wanted word).grace.lists ≡ e.grace.lists
  same_lists e is_wanted word =
      let moved : (moved_on e is_wanted word).grace.lists ≡ e.grace.lists =
      either_way e.grace.lists e.grace.seq.running (after_collections e word)
      (if is_wanted then after_begin e word else e) refl
      (either_way e.grace.lists is_wanted (after_begin e word) e refl refl) in
      either_way e.grace.lists _ (after_end (moved_on e is_wanted word)) (moved_on e is_wanted word)
      moved moved

  -- the whole
  pub step_is_a_run : (e : Locked C X) (word : ℕ → ℕ) → IsRun e (whole_step e word)
  step_is_a_run e word =
      let ready = engine_after e (before_drive e) in (
        ap (λ (l : AllLists X). l.running) (same_lists ready (wants_begin ready.grace) word)
            ∙ running_before e,
        (tt, ready_is_a_run e),
      )

  -- visits and tends begin no barrier
  queued_visits : (first : Locked C X) (n : ℕ) (calls : List (Call X))
      → queued_before_barrier first (visits n ++ calls) ≡ queued_before_barrier first calls
  queued_visits first zero calls = refl
  queued_visits first (suc n) calls = queued_visits first n calls

  queued_tends : (first : Locked C X) (n : ℕ) (calls : List (Call X))
      → queued_before_barrier first (tends n ++ calls) ≡ queued_before_barrier first calls
  queued_tends first zero calls = refl
  queued_tends first (suc n) calls = queued_tends first n calls

  queued_begun : (first : Locked C X) (calls : List (Call X)) (b : Bool)
      → queued_before_barrier first ((if b then [] else BarrierBegin ∷ []) ++ calls)
      ≡ (if b then queued_before_barrier first calls
      else (engine_after first calls).grace.lists.queued)
  queued_begun first calls true = refl
  queued_begun first calls false = refl

  -- the callbacks queued before the barrier that a step waits for: all, if the step began it
  pub queued_by_step : (first : Locked C X) (calls : List (Call X)) (word : ℕ → ℕ)
      → queued_before_barrier first (whole_step (engine_after first calls) word ++ calls)
      ≡ (if (engine_after first calls).grace.lists.running then queued_before_barrier first calls
      else (engine_after first calls).grace.lists.queued)
  queued_by_step first calls word =
      let e = engine_after first calls in
      let behind = begun e ++ calls in
      let apart : before_drive e ++ calls ≡ tends e.cpus ++ (visits e.cpus ++ behind) =
      append_assoc (tends e.cpus) (visits e.cpus ++ begun e) calls
      ∙ ap (λ (l : List (Call X)). tends e.cpus ++ l)
      (append_assoc (visits e.cpus) (begun e) calls) in
      ap (λ (l : List (Call X)). queued_before_barrier first l) apart
      ∙ queued_tends first e.cpus (visits e.cpus ++ behind)
      ∙ queued_visits first e.cpus behind
      ∙ queued_begun first calls e.grace.lists.running

-- a barrier that waits for nothing is done
done_at_0 : (n : ℕ) (b : Bool) → (n == 0) ≡ b
    → left_of (if b then state.Done else state.Waits n) ≡ 0
    → (if b then state.Done else state.Waits n) ≡ state.Done
done_at_0 n true is none = refl
done_at_0 n false is none = absurd (grind (arith, nat_tests, is, none))

module _ {C X : Type 0} where
  pub done_by_step : (first : Locked C X) (calls : List (Call X)) (word : ℕ → ℕ)
      → left_of (step_answer (engine_after first calls) word) ≡ 0
      → barrier_test_answer (engine_after first
      (after_driving (engine_after first calls) word ++ calls)).grace.lists ≡ state.Done
  done_by_step first calls word none =
      let e = engine_after first calls in
      let all : AllLists X = (engine_after e (after_driving e word)).grace.lists in
      ap (λ (x : Locked C X). barrier_test_answer x.grace.lists)
      (appended first (after_driving e word) calls)
      ∙ done_at_0 (barrier_left all) (barrier_left all == 0) refl none
