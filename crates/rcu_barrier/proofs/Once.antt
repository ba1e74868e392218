-- With those still in the lists, each callback was handed out at most once.
use Rattle.std.proofs.Common.{◌≡◌, ◌≢◌, ℕ, zero, suc, ◌+◌, ◌<◌, ◌≤◌, Bool, true, false, List, []}
use Rattle.std.proofs.Common.{◌∷◌, ◌++◌, refl, ap, ◌∙◌, arith, cond, eqb, map, length, set, get_or}
use Rattle.std.proofs.Common.{get_or-set_other}
use Rattle.std.specs.Prelude.{sum_by, replicate, ◌==◌}
use Rattle.std.proofs.lemmas.Bool.Decides.{nat_tests}
use Rattle.std.proofs.lemmas.List.{length-set}
use Rattle.std.proofs.lemmas.List.Sums.{sum_by-cons, sum_by-set}
use Rattle.rcu_cblist.specs.SegList.{Item, Of, Unmarked, after_entrain, after_migrate}
use Rattle.rcu_cblist.specs.SegList.{after_renumber, after_take, as_it_leaves, callbacks}
use Rattle.rcu_cblist.specs.SegList.{mark_renumbered}
use Rattle.rcu_barrier.specs.Tending.{mark_after_tend, after_tend}
use Rattle.rcu_barrier.specs.Lists.{AllLists, barrier_left, is_visited, list_of}
use Rattle.rcu_barrier.specs.Lists.{lists_after_move, owes_visit, with_list}
use Rattle.rcu_barrier.specs.Runs.{Call, IsNew, IsRun, MayCall, after_call, copies, lists_after}
use Rattle.rcu_barrier.specs.Runs.{times_handed_out, times_listed, Queue, Tend, Run, Migrate}
use Rattle.rcu_barrier.specs.Runs.{BarrierBegin, Visit, BarrierTest, Renumber}
use Rattle.rcu_barrier.proofs.Places.{lies, copies_are, lies-append, lies-cut, lies-leaving}
use Rattle.rcu_barrier.proofs.Places.{lies-moved, lies-remarked}

abbrev pub listed : {X : Type 0} → ℕ → List (List (Item X)) → ℕ
listed j lists = sum_by (lies j) lists

none_listed : (X : Type 0) (j n : ℕ) → listed {X = X} j (replicate n []) ≡ 0
none_listed X j zero = refl
none_listed X j (suc n) =
    let a = sum_by-cons (lies {X = X} j) [] (replicate n []) in
    let b = none_listed X j n in omega (arith, a, b)

module _ {X : Type 0} where
  -- one list changes
  one : (j cpu : ℕ) (lists : List (List (Item X))) (xs : List (Item X)) → cpu < length lists
      → listed j (set lists cpu xs) + lies j (get_or lists cpu []) ≡ listed j lists + lies j xs
  one j cpu lists xs within = sum_by-set (lies j) lists cpu xs [] within

  -- one list changes, and holds as many
  one_same : (j cpu : ℕ) (lists : List (List (Item X))) (xs : List (Item X)) → cpu < length lists
      → lies j xs ≡ lies j (get_or lists cpu []) → listed j (set lists cpu xs) ≡ listed j lists
  one_same j cpu lists xs within same = let k = one j cpu lists xs within in omega (arith, k, same)

  -- each list changes, and holds as many
  each_same : (j : ℕ) (f : List (Item X) → List (Item X)) (lists : List (List (Item X)))
      → ((xs : List (Item X)) → lies j (f xs) ≡ lies j xs) → listed j (map f lists) ≡ listed j lists
  each_same j f [] same = refl
  each_same j f (xs ∷ lists) same =
      let a = sum_by-cons (lies j) (f xs) (map f lists) in let b = sum_by-cons (lies j) xs lists in
      let c = same xs in let d = each_same j f lists same in
      omega (arith, a, b, c, d)

  moved : (j cpu : ℕ) (lists : List (List (Item X))) (owed : Bool) → 0 < cpu → cpu < length lists
      → listed j (lists_after_move lists cpu owed) ≡ listed j lists
  moved j cpu lists owed other inside =
      let old = get_or lists cpu [] in
      let xs = as_it_leaves old owed in
      let there = get_or lists 0 [] in
      let first = set lists 0 (after_migrate there xs) in
      let long = length-set lists 0 (after_migrate there xs) in
      let apart : cpu ≢ 0 = omega arith in
      let same : get_or first cpu [] ≡ old = rw get_or-set_other refl in
      let a = one j 0 lists (after_migrate there xs) (omega arith) in
      let b = one j cpu first [] (omega arith) in
      let c = ap (lies j) same in
      let d = lies-moved j xs there in
      let e = lies-leaving j owed old in
      omega (arith, a, b, c, d, e)

  visited_lists : (j cpu : ℕ) (all : AllLists X)
      → cpu < length all.lists
      → (seen : Bool)
      → listed j
      (cond seen all
      (record (with_list all cpu (after_entrain (list_of all cpu))) {
        visited = set all.visited cpu true;
      })).lists
      ≡ listed j all.lists
  visited_lists j cpu all within true = refl
  visited_lists j cpu all within false =
      one_same j cpu all.lists (after_entrain (list_of all cpu)) within
      (lies-leaving j true (list_of all cpu))

  visited_queued : (cpu : ℕ) (all : AllLists X) (seen : Bool)
      → (cond seen all
      (record (with_list all cpu (after_entrain (list_of all cpu))) {
        visited = set all.visited cpu true;
      })).queued
      ≡ all.queued
  visited_queued cpu all true = refl
  visited_queued cpu all false = refl

  tested_lists : (all : AllLists X) (done : Bool)
      → (cond done (record all { running = false }) all).lists ≡ all.lists
  tested_lists all true = refl
  tested_lists all false = refl

  tested_queued : (all : AllLists X) (done : Bool)
      → (cond done (record all { running = false }) all).queued ≡ all.queued
  tested_queued all true = refl
  tested_queued all false = refl

  -- handed out n times; with the copies in the lists, once if it was queued, and else never
  pub record Once (j n : ℕ) (all : AllLists X) : Type 0 where
    pub once : n + listed j all.lists ≤ 1
    pub there : 0 < j → j ≤ all.queued → n + listed j all.lists ≡ 1
    pub later : all.queued < j → n + listed j all.lists ≡ 0

  same_once : (j m n : ℕ) (old new : AllLists X) → m + listed j new.lists ≡ n + listed j old.lists
      → new.queued ≡ old.queued → Once j n old → Once j m new
  same_once j m n old new same count o =
      let a = o.once in record {
        once = omega (arith, same, a);
        there = λ z b. same ∙ o.there z (omega (arith, b, count));
        later = λ l. same ∙ o.later (omega (arith, l, count));
      }

  queued_once : (j n cpu : ℕ) (all : AllLists X) (new : Item X)
      → cpu < length all.lists
      → lies j (new ∷ []) ≡ cond (eqb (all.queued + 1) j) 1 0
      → Once j n all
      → Once j n
      (record (with_list all cpu (list_of all cpu ++ new ∷ [])) { queued = all.queued + 1 })
  queued_once j n cpu all new within is o =
      let k = one j cpu all.lists (list_of all cpu ++ new ∷ []) within in
      let a = lies-append j (list_of all cpu) (new ∷ []) in
      let f = o.later in
      let q = o.there in
      record {
        once = let t = o.once in grind (arith, nat_tests);
        there = λ z b. grind (arith, nat_tests);
        later = λ q. grind (arith, nat_tests);
      }

  once_step : (j : ℕ) (first : AllLists X) (call : Call X) (calls : List (Call X))
      → MayCall (lists_after first calls) call
      → Once j (times_handed_out j first calls) (lists_after first calls)
      → Once j (times_handed_out j first (call ∷ calls)) (after_call (lists_after first calls) call)
  once_step j first (Queue cpu at value) calls may o =
      let all = lists_after first calls in
      queued_once j (times_handed_out j first calls) cpu all
      (Of (record { ord = all.queued + 1; at = at; value = value }) Unmarked) may (omega arith) o
  once_step j first (Tend cpu number) calls may o =
      let all = lists_after first calls in let n = times_handed_out j first calls in
      let k = one_same j cpu all.lists (after_tend (list_of all cpu) number) may
      (lies-remarked j (mark_after_tend number) (list_of all cpu)) in
      same_once j n n all (after_call all (Tend cpu number)) (ap (λ m. n + m) k) refl o
  once_step j first (Run cpu most) calls may o =
      let all = lists_after first calls in let n = times_handed_out j first calls in
      let k = one j cpu all.lists (after_take (list_of all cpu) most) may in
      let a = lies-cut j most (list_of all cpu) in
      same_once j (times_handed_out j first (Run cpu most ∷ calls)) n all
      (after_call all (Run cpu most)) (omega (arith, k, a)) refl o
  once_step j first (Migrate cpu) calls may o =
      let all = lists_after first calls in let n = times_handed_out j first calls in
      same_once j n n all (after_call all (Migrate cpu))
      (ap (λ m. n + m) (moved j cpu all.lists (owes_visit all cpu) may.0 may.1)) refl o
  once_step j first BarrierBegin calls may o =
      let all = lists_after first calls in let n = times_handed_out j first calls in
      same_once j n n all (after_call all BarrierBegin) refl refl o
  once_step j first (Visit cpu) calls may o =
      let all = lists_after first calls in let n = times_handed_out j first calls in
      same_once j n n all (after_call all (Visit cpu))
      (ap (λ m. n + m) (visited_lists j cpu all may.0 (is_visited all cpu)))
      (visited_queued cpu all (is_visited all cpu)) o
  once_step j first BarrierTest calls may o =
      let all = lists_after first calls in let n = times_handed_out j first calls in
      same_once j n n all (after_call all BarrierTest)
      (ap (λ lists. n + listed j lists) (tested_lists all (barrier_left all == 0)))
      (tested_queued all (barrier_left all == 0)) o
  once_step j first Renumber calls may o =
      let all = lists_after first calls in let n = times_handed_out j first calls in
      same_once j n n all (after_call all Renumber)
      (ap (λ m. n + m)
      (each_same j after_renumber all.lists (λ xs. lies-remarked j mark_renumbered xs)))
      refl o

  pub once_each : (j : ℕ) (first : AllLists X) (calls : List (Call X))
      → IsNew first → IsRun first calls
      → Once j (times_handed_out j first calls) (lists_after first calls)
  once_each j first [] new is =
      let a = none_listed X j (length first.lists) in
      let l = ap (λ (all : AllLists X). listed j all.lists) new in
      let q = ap (λ (all : AllLists X). all.queued) new in
      record {
        once = omega (arith, a, l);
        there = λ z b. absurd (omega (arith, b, q, z));
        later = λ b. omega (arith, a, l);
      }
  once_each j first (call ∷ calls) new is =
      once_step j first call calls is.0 (once_each j first calls new is.1)

  pub at_most_once : (first : AllLists X) (calls : List (Call X)) (j : ℕ)
      → IsNew first → IsRun first calls → times_handed_out j first calls ≤ 1
  at_most_once first calls j new is =
      let o = (once_each j first calls new is).once in omega (arith, o)

  listed_are : (j : ℕ) (lists : List (List (Item X)))
      → sum_by (λ xs. copies j (callbacks xs)) lists ≡ listed j lists
  listed_are j [] = refl
  listed_are j (xs ∷ lists) =
      let a = sum_by-cons (λ (ys : List (Item X)). copies j (callbacks ys)) xs lists in
      let b = sum_by-cons (lies j) xs lists in
      let c = copies_are j xs in let d = listed_are j lists in
      omega (arith, a, b, c, d)

  pub none_lost : (first : AllLists X) (calls : List (Call X)) (j : ℕ)
      → IsNew first → IsRun first calls → 0 < j → j ≤ (lists_after first calls).queued
      → times_handed_out j first calls + times_listed j (lists_after first calls) ≡ 1
  none_lost first calls j new is z b =
      let o = (once_each j first calls new is).there z b in
      let l = listed_are j (lists_after first calls).lists in
      omega (arith, o, l)
