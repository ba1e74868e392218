-- While a barrier runs, each callback from before its begin has a marker behind it if its list was
-- visited.
use Rattle.std.proofs.Common.{◌≡◌, ◌≢◌, ℕ, zero, suc, ◌+◌, ◌<◌, ◌≤◌, Bool, true, false, not, List}
use Rattle.std.proofs.Common.{[], ◌∷◌, ◌++◌, refl, sym, ap, ◌∙◌, arith, cond, eqb, length, set}
use Rattle.std.proofs.Common.{get_or}
use Rattle.std.specs.Prelude.{replicate, ◌==◌, if◌then◌else◌, sum_by}
use Rattle.std.proofs.lemmas.Bool.{eqb-true}
use Rattle.std.proofs.lemmas.List.{length-replicate, length-set, length-map}
use Rattle.std.proofs.lemmas.List.Sums.{get_or-le-sum_by, sum_by-cons}
use Rattle.rcu_cblist.specs.SegList.{Item, Of, Unmarked, after_entrain, after_migrate}
use Rattle.rcu_cblist.specs.SegList.{after_renumber, after_take, as_it_leaves, mark_renumbered}
use Rattle.rcu_cblist.specs.SegList.{markers, take_answer}
use Rattle.rcu_barrier.specs.Tending.{after_tend, mark_after_tend}
use Rattle.rcu_barrier.specs.Lists.{AllLists, barrier_left, barrier_test_answer, is_visited}
use Rattle.rcu_barrier.specs.Lists.{list_of, markers_in, owes_visit, unvisited, with_list}
use Rattle.rcu_barrier.specs.Runs.{Call, IsNew, IsRun, MayCall, after_call, lists_after}
use Rattle.rcu_barrier.specs.Runs.{queued_before_barrier, times_handed_out, Queue, Tend, Run}
use Rattle.rcu_barrier.specs.Runs.{Migrate, BarrierBegin, Visit, BarrierTest, Renumber}
use Rattle.rcu_barrier.specs.declared.lists.BarrierState.{BarrierState}
use Rattle.rcu_barrier.specs.declared.lists.BarrierState.TheVariants as state
use Rattle.rcu_barrier.proofs.Covering.{Covered, covered-append, covered-entrained, covered-from}
use Rattle.rcu_barrier.proofs.Covering.{covered-leaving, covered-moved, covered-remarked, none_left}
use Rattle.rcu_barrier.proofs.EachCallback.{at_set, renumbered_at}
use Rattle.rcu_barrier.proofs.Once.{once_each}
use Rattle.rcu_barrier.proofs.Places.{lies}

set_flag : (flags : List Bool) (i c : ℕ) → c ≢ i → get_or (set flags i true) c false ≡ true
    → get_or flags c false ≡ true
set_flag [] i c other on = on
set_flag (flag ∷ flags) zero zero other on = absurd (other refl)
set_flag (flag ∷ flags) zero (suc c) other on = on
set_flag (flag ∷ flags) (suc i) zero other on = on
set_flag (flag ∷ flags) (suc i) (suc c) other on =
    set_flag flags i c (λ e. other (omega (arith, e))) on

none_set : (n c : ℕ) → get_or (replicate n false) c false ≡ false
none_set zero c = refl
none_set (suc n) zero = refl
none_set (suc n) (suc c) = none_set n c

all_visited : (flags : List Bool) → unvisited flags ≡ 0 → (c : ℕ) → c < length flags
    → get_or flags c false ≡ true
all_visited [] none c within = absurd (omega arith)
all_visited (true ∷ flags) none zero within = refl
all_visited (false ∷ flags) none zero within =
    let a = sum_by-cons (λ flag. cond (not flag) 1 0) false flags in absurd (omega (arith, a, none))
all_visited (flag ∷ flags) none (suc c) within =
    let a = sum_by-cons (λ flag. cond (not flag) 1 0) flag flags in
    all_visited flags (omega (arith, a, none)) c (omega (arith, within))

moved_flag : (flags : List Bool) (cpu c : ℕ) (owed : Bool)
    → c ≢ cpu → get_or (if owed then set flags cpu true else flags) c false ≡ true
    → get_or flags c false ≡ true
moved_flag flags cpu c true other on = set_flag flags cpu c other on
moved_flag flags cpu c false other on = on

moved_sized : (flags : List Bool) (cpu : ℕ) (owed : Bool)
    → length (if owed then set flags cpu true else flags) ≡ length flags
moved_sized flags cpu true = length-set flags cpu true
moved_sized flags cpu false = refl

told_done : (done : Bool) (left : ℕ) → eqb left 0 ≡ done
    → (if done then state.Done else state.Waits left) ≡ state.Done → left ≡ 0
told_done true left is told = eqb-true left 0 is
told_done false left is told = absurd (cc)

module _ {X : Type 0} where
  -- a flag for each list; while a barrier runs, the list of each processor that it visited is
  -- covered
  record Barrier (b : ℕ) (all : AllLists X) : Type 0 where
    pub covered : all.running ≡ true → (c : ℕ) → is_visited all c ≡ true → Covered b (list_of all c)
    pub before_le : b ≤ all.queued
    pub sized : length all.visited ≡ length all.lists

  -- one list changes, and covered callbacks stay covered
  relisted : (b cpu queued : ℕ) (all : AllLists X) (xs : List (Item X)) → b ≤ queued
      → (Covered b (list_of all cpu) → Covered b xs) → Barrier b all
      → Barrier b (record (with_list all cpu xs) { queued = queued })
  relisted b cpu queued all xs few keeps f = record {
    covered = λ r c v. at_set (Covered b) all.lists cpu c xs [] tt
        (λ e. keeps (f.covered r cpu (rw (← e) v))) (λ n. f.covered r c v);
    before_le = few;
    sized = f.sized ∙ sym (length-set all.lists cpu xs);
  }

  visited : (b cpu : ℕ) (all : AllLists X) (seen : Bool)
      → Barrier b all
      → Barrier b
      (cond seen all
      (record (with_list all cpu (after_entrain (list_of all cpu))) {
        visited = set all.visited cpu true;
      }))
  visited b cpu all true f = f
  visited b cpu all false f = record {
    covered = λ r c v. at_set (Covered b) all.lists cpu c (after_entrain (list_of all cpu)) [] tt
        (λ e. covered-entrained b (list_of all cpu))
        (λ n. f.covered r c (set_flag all.visited cpu c n v));
    before_le = f.before_le;
    sized =
        length-set all.visited cpu true
        ∙ (f.sized ∙ sym (length-set all.lists cpu (after_entrain (list_of all cpu))));
  }

  moved : (b cpu : ℕ) (all : AllLists X) → 0 < cpu → Barrier b all
      → Barrier b (after_call all (Migrate cpu))
  moved b cpu all other f =
      let owed = owes_visit all cpu in
      let xs = as_it_leaves (list_of all cpu) owed in
      let ys = after_migrate (list_of all 0) xs in
      let first = set all.lists 0 ys in
      record {
        covered = λ r c v. at_set (Covered b) first cpu c [] [] tt (λ e. tt)
            (λ n.
            let old = f.covered r c (moved_flag all.visited cpu c owed n v) in
            at_set (Covered b) all.lists 0 c ys [] tt
            (λ z. covered-moved b xs (list_of all 0)
            (covered-leaving b all.running (is_visited all cpu) (list_of all cpu) r
            (λ w. f.covered r cpu w))
            (rw (← z) old))
            (λ m. old));
        before_le = f.before_le;
        sized = moved_sized all.visited cpu owed
            ∙ (f.sized ∙ sym (length-set first cpu [] ∙ length-set all.lists 0 ys));
      }

  tested : (b : ℕ) (all : AllLists X) (done : Bool) → Barrier b all
      → Barrier b (cond done (record all { running = false }) all)
  tested b all true f = record {
    covered = λ r c v. absurd (cc);
    before_le = f.before_le;
    sized = f.sized;
  }
  tested b all false f = f

  barrier_step : (first : AllLists X) (call : Call X) (calls : List (Call X))
      → MayCall (lists_after first calls) call
      → Barrier (queued_before_barrier first calls) (lists_after first calls)
      → Barrier (queued_before_barrier first (call ∷ calls))
      (after_call (lists_after first calls) call)
  barrier_step first (Queue cpu at value) calls may f =
      let all = lists_after first calls in
      let b = queued_before_barrier first calls in
      let k = f.before_le in
      let new : Item X = Of (record { ord = all.queued + 1; at = at; value = value }) Unmarked in
      relisted b cpu (all.queued + 1) all (list_of all cpu ++ new ∷ []) (omega (arith, k))
      (λ old.
      covered-append b (list_of all cpu) (new ∷ []) old ((λ l. absurd (omega (arith, k, l))), tt))
      f
  barrier_step first (Tend cpu number) calls may f =
      let all = lists_after first calls in let b = queued_before_barrier first calls in
      relisted b cpu all.queued all (after_tend (list_of all cpu) number) f.before_le
      (λ old. covered-remarked b (mark_after_tend number) (list_of all cpu) old) f
  barrier_step first (Run cpu most) calls may f =
      let all = lists_after first calls in let b = queued_before_barrier first calls in
      relisted b cpu all.queued all (after_take (list_of all cpu) most) f.before_le
      (λ old. covered-from b (length (take_answer (list_of all cpu) most)) (list_of all cpu) old) f
  barrier_step first (Migrate cpu) calls may f =
      moved (queued_before_barrier first calls) cpu (lists_after first calls) may.0 f
  barrier_step first BarrierBegin calls may f =
      let all = lists_after first calls in record {
        covered = λ r c v. let no = none_set (length all.lists) c in absurd (cc);
        before_le = omega arith;
        sized = length-replicate (length all.lists) false;
      }
  barrier_step first (Visit cpu) calls may f =
      let all = lists_after first calls in
      visited (queued_before_barrier first calls) cpu all (is_visited all cpu) f
  barrier_step first BarrierTest calls may f =
      let all = lists_after first calls in
      tested (queued_before_barrier first calls) all (barrier_left all == 0) f
  barrier_step first Renumber calls may f =
      let all = lists_after first calls in let b = queued_before_barrier first calls in
      record {
        covered = λ r c v. rw (renumbered_at all.lists c)
            (covered-remarked b mark_renumbered (list_of all c) (f.covered r c v));
        before_le = f.before_le;
        sized = f.sized ∙ sym (length-map all.lists after_renumber);
      }

  barrier_each : (first : AllLists X) (calls : List (Call X)) → IsNew first → IsRun first calls
      → Barrier (queued_before_barrier first calls) (lists_after first calls)
  barrier_each first [] new is =
      let off = ap (λ (all : AllLists X). all.running) new in
      let flags = ap (λ (all : AllLists X). length all.visited) new in record {
        covered = λ r c v. absurd (cc);
        before_le = omega arith;
        sized = flags ∙ length-replicate (length first.lists) true;
      }
  barrier_each first (call ∷ calls) new is =
      barrier_step first call calls is.0 (barrier_each first calls new is.1)

  pub none_in : (f : List (Item X) → ℕ) (lists : List (List (Item X)))
      → ((c : ℕ) → c < length lists → f (get_or lists c []) ≡ 0) → sum_by f lists ≡ 0
  none_in f [] h = refl
  none_in f (xs ∷ lists) h =
      let a = h 0 (omega arith) in
      let b = none_in f lists (λ c l. h (suc c) (omega (arith, l))) in
      let s = sum_by-cons f xs lists in
      omega (arith, a, b, s)

  -- each list has a flag
  pub as_many_flags : (first : AllLists X) (calls : List (Call X)) → IsNew first
      → IsRun first calls
      → length (lists_after first calls).visited ≡ length (lists_after first calls).lists
  as_many_flags first calls new is = (barrier_each first calls new is).sized

  handed_once : (first : AllLists X) (calls : List (Call X)) (j : ℕ)
      → IsNew first
      → IsRun first (BarrierTest ∷ calls)
      → barrier_left (lists_after first calls) ≡ 0
      → 0 < j
      → j ≤ queued_before_barrier first calls
      → times_handed_out j first calls ≡ 1
  handed_once first calls j new is over z b =
      let all = lists_after first calls in
      let f = barrier_each first calls new is.1 in
      let k = f.before_le in
      let o = (once_each j first calls new is.1).there z (omega (arith, k, b)) in
      let u : unvisited all.visited ≡ 0 = omega (arith, over) in
      let m : markers_in all.lists ≡ 0 = omega (arith, over) in
      let none = none_in (lies j) all.lists (λ c l.
      let seen = all_visited all.visited u c (omega (arith, l, f.sized)) in
      let le = get_or-le-sum_by markers all.lists c [] l in
      none_left (queued_before_barrier first calls) j (list_of all c) (f.covered is.0 c seen)
      (omega (arith, le, m)) b) in
      omega (arith, o, none)

  pub earlier_are_handed : (first : AllLists X) (calls : List (Call X)) (j : ℕ)
      → IsNew first
      → IsRun first (BarrierTest ∷ calls)
      → barrier_test_answer (lists_after first calls) ≡ BarrierState.Done
      → 0 < j
      → j ≤ queued_before_barrier first calls
      → times_handed_out j first calls ≡ 1
  earlier_are_handed first calls j new is told z b =
      let left = barrier_left (lists_after first calls) in
      handed_once first calls j new is (told_done (left == 0) left refl told) z b
