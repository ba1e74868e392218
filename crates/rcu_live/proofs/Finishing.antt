-- When a barrier of a running engine is done, and how a callback comes to be handed out.
use Rattle.std.proofs.Common.{◌≡◌, ℕ, ◌<◌, ◌≤◌, true, false, List, [], ◌∷◌, ◌++◌}
use Rattle.std.proofs.Common.{refl, sym, ap, ◌∙◌, subst, arith, length}
use Rattle.std.specs.List.{list_any}
use Rattle.rcu_seq.specs.Numbers.{snapshot}
use Rattle.rcu_seq.specs.Seq.{number_of}
use Rattle.rcu_cblist.specs.SegList.{callbacks, front}
use Rattle.rcu_barrier.specs.Lists.{AllLists, barrier_test_answer, cpus_of, is_visited, list_of}
use Rattle.rcu_barrier.specs.Runs as lists
use Rattle.rcu_barrier.specs.Runs.{copies}
use Rattle.rcu_barrier.specs.declared.lists.BarrierState.{BarrierState}
use Rattle.rcu_live.specs.Drive.{after_drive}
use Rattle.rcu_live.specs.Engine.{Locked}
use Rattle.rcu_live.specs.Numbers.{reports_quiescence}
use Rattle.rcu_live.specs.Progress.{begins_barrier}
use Rattle.rcu_live.specs.Runs.{BarrierBegin, BarrierTest, Call, Drive, IsNew, IsRun, Run, Tend}
use Rattle.rcu_live.specs.Runs.{engine_after, times_handed_out}
use Rattle.rcu_live.proofs.Driving.{two_finish}
use Rattle.rcu_live.proofs.Handing.{calls_split, is_run_before, then_handed_out}
use Rattle.rcu_live.proofs.ListRuns.{as_many_lists, kept_drive, list_calls, lists_new, runs_onto}

module _ {C X : Type 0} where
  no_begin : (e : Locked C X) (later : List (Call X)) → list_any begins_barrier later ≡ false
      → list_any lists.begins_barrier (list_calls e later) ≡ false
  no_begin e [] none = refl
  no_begin e (BarrierBegin ∷ later) none = absurd (cc)
  no_begin e (call ∷ later) none = no_begin e later none

  -- by the law of the lists, once each processor was visited, and what was queued before that was
  -- handed out
  pub barrier_finishes : (first : Locked C X) (later visited : List (Call X))
      → ((all : AllLists X) (after before : List (lists.Call X))
      → lists.IsNew all
      → lists.IsRun all (lists.BarrierTest ∷ after ++ before)
      → ((cpu : ℕ) → cpu < cpus_of (lists.lists_after all before)
      → is_visited (lists.lists_after all before) cpu ≡ true)
      → list_any lists.begins_barrier after ≡ false
      → ((j : ℕ) → 0 < j → j ≤ (lists.lists_after all before).queued
      → lists.times_handed_out j all (after ++ before) ≡ 1)
      → barrier_test_answer (lists.lists_after all (after ++ before)) ≡ BarrierState.Done)
      → IsNew first
      → IsRun first (BarrierTest ∷ later ++ visited)
      → ((cpu : ℕ) → cpu < (engine_after first visited).cpus
      → is_visited (engine_after first visited).grace.lists cpu ≡ true)
      → list_any begins_barrier later ≡ false
      → ((j : ℕ) → 0 < j → j ≤ (engine_after first visited).grace.lists.queued
      → times_handed_out j first (later ++ visited) ≡ 1)
      → barrier_test_answer (engine_after first (later ++ visited)).grace.lists ≡ BarrierState.Done
  barrier_finishes first later visited law new is seen none out =
      let all = first.grace.lists in
      let sized = as_many_lists first [] 0 new in
      let o = runs_onto first (BarrierTest ∷ later ++ visited) sized is in
      let t = runs_onto first (later ++ visited) sized is.1 in
      let v = runs_onto first visited sized (is_run_before first later visited is.1) in
      let between = list_calls (engine_after first visited) later in
      let before = list_calls first visited in
      let split = calls_split first later visited in
      let left = ap (λ run. lists.lists_after all run) (sym split) ∙ t.leaves in
      ap (λ lists. barrier_test_answer lists) (sym left)
      ∙ law all between before (lists_new first [] 0 new)
      (subst (λ run. lists.IsRun all (lists.BarrierTest ∷ run)) split o.is)
      (λ cpu inside.
      ap (λ lists. is_visited lists cpu) v.leaves
      ∙ seen cpu
      (let same = ap (λ (lists : AllLists X). length lists.lists) v.leaves in let count = v.sized in
      omega (arith, inside, same, count)))
      (no_begin (engine_after first visited) later none)
      (λ j some few.
      ap (λ run. lists.times_handed_out j all run) (sym split)
      ∙ t.handed j
      ∙ out j some (subst (λ (lists : AllLists X). j ≤ lists.queued) v.leaves few))

  -- a tend, two wanted steps of driving, a tend and a run
  pub five_run : (first : Locked C X) (calls : List (Call X)) (one two : ℕ → ℕ) (cpu most : ℕ)
      → IsRun first calls
      → cpu < (engine_after first calls).cpus
      → IsRun first (Run cpu most ∷ Tend cpu ∷ Drive true two ∷ Drive true one ∷ Tend cpu ∷ calls)
  five_run first calls one two cpu most is inside =
      let e = engine_after first (Tend cpu ∷ calls) in
      let same : (engine_after first (Drive true two ∷ Drive true one ∷ Tend cpu ∷ calls)).cpus
      ≡ (engine_after first calls).cpus =
      (kept_drive (after_drive e true one) true two).count ∙ (kept_drive e true one).count in
      let still = subst (λ n. cpu < n) (sym same) inside in
      (still, (still, (tt, (tt, (inside, is)))))

  pub five_hand_out : (first : Locked C X) (calls : List (Call X)) (one two : ℕ → ℕ)
      (cpu place most : ℕ)
      → IsNew first
      → IsRun first calls
      → cpu < (engine_after first calls).cpus
      → ((c : ℕ)
      → reports_quiescence (snapshot (number_of (engine_after first calls).grace.seq)) (one c)
      ≡ true)
      → ((c : ℕ)
      → reports_quiescence (snapshot (number_of (engine_after first calls).grace.seq)) (two c)
      ≡ true)
      → 0 < place
      → place ≤ (engine_after first calls).grace.lists.queued
      → copies place (callbacks (list_of (engine_after first calls).grace.lists cpu)) ≡ 1
      → length (callbacks (front (list_of (engine_after first
      (Tend cpu ∷ Drive true two ∷ Drive true one ∷ Tend cpu ∷ calls)).grace.lists cpu)))
      ≤ most
      → times_handed_out place first
      (Run cpu most ∷ Tend cpu ∷ Drive true two ∷ Drive true one ∷ Tend cpu ∷ calls)
      ≡ 1
  five_hand_out first calls one two cpu place most new is inside f s some few listed enough =
      then_handed_out first (Drive true two ∷ Drive true one ∷ []) calls cpu place new most
      (five_run first calls one two cpu most is inside)
      (two_finish (engine_after first (Tend cpu ∷ calls)) one two f s) refl some few listed enough
