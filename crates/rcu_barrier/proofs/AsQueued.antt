-- A callback stays as it was queued.
use Rattle.std.proofs.Common.{◌≡◌, ℕ, zero, suc, ◌+◌, ◌<◌, ◌≤◌, Bool, true, false, List, []}
use Rattle.std.proofs.Common.{◌∷◌, Some, refl, sym, subst, arith, cond, ne_eqb, eq-eqb, set}
use Rattle.std.proofs.Common.{get_or, length}
use Rattle.std.specs.Prelude.{slice_get, replicate, ◌==◌}
use Rattle.rcu_cblist.specs.declared.items.Queued.{Queued}
use Rattle.rcu_cblist.specs.SegList.{Item, Of, Marker, Unmarked, after_entrain, after_migrate}
use Rattle.rcu_cblist.specs.SegList.{after_take, as_it_leaves, mark_renumbered, take_answer}
use Rattle.rcu_barrier.specs.Tending.{after_tend, mark_after_tend}
use Rattle.rcu_barrier.specs.Lists.{AllLists, barrier_left, is_visited, list_of, owes_visit}
use Rattle.rcu_barrier.specs.Lists.{with_list}
use Rattle.rcu_barrier.specs.Runs.{Call, IsNew, after_call, lists_after, queued_as, Queue, Tend}
use Rattle.rcu_barrier.specs.Runs.{Run, Migrate, BarrierBegin, Visit, BarrierTest, Renumber}
use Rattle.rcu_barrier.proofs.EachCallback.{Each, at_set, each-append, each-from, each-leaving}
use Rattle.rcu_barrier.proofs.EachCallback.{each-moved, each-remarked, each-taken, each-weaker}
use Rattle.rcu_barrier.proofs.EachCallback.{renumbered_at}
use Rattle.rcu_barrier.proofs.Led.{AtMost}
use Rattle.rcu_barrier.proofs.Places.{lies}

module _ {X : Type 0} where
  -- a fact of each callback of all lists
  abbrev pub EachOf : (Queued X → Type 0) → List (List (Item X)) → Type 0
  EachOf P lists = (cpu : ℕ) → Each P (get_or lists cpu [])

  each_set : (P : Queued X → Type 0) (lists : List (List (Item X))) (cpu : ℕ) (xs : List (Item X))
      → Each P xs → EachOf P lists → EachOf P (set lists cpu xs)
  each_set P lists cpu xs new old c = at_set (Each P) lists cpu c xs [] tt (λ e. new) (λ n. old c)

  each_visited : (P : Queued X → Type 0) (all : AllLists X) (cpu : ℕ) (flags : List Bool)
      (seen : Bool)
      → EachOf P all.lists
      → EachOf P
      (cond seen all
      (record (with_list all cpu (after_entrain (list_of all cpu))) { visited = flags })).lists
  each_visited P all cpu flags true a = a
  each_visited P all cpu flags false a =
      each_set P all.lists cpu (after_entrain (list_of all cpu))
      (each-leaving P true (list_of all cpu) (a cpu)) a

  each_tested : (P : Queued X → Type 0) (all : AllLists X) (done : Bool) → EachOf P all.lists
      → EachOf P (cond done (record all { running = false }) all).lists
  each_tested P all true a = a
  each_tested P all false a = a

  none_of : (P : Queued X → Type 0) (n c : ℕ) → Each P (get_or (replicate n []) c [])
  none_of P zero c = tt
  none_of P (suc n) zero = tt
  none_of P (suc n) (suc c) = none_of P n c

  -- a call keeps a property of each callback, if a callback that is queued has it
  pub each_step : (P : Queued X → Type 0) (all : AllLists X) (call : Call X)
      → ((cpu : ℕ) (at : _) (value : X) → call ≡ Queue cpu at value
      → P (record { ord = all.queued + 1; at = at; value = value }))
      → EachOf P all.lists
      → EachOf P (after_call all call).lists
  each_step P all (Queue cpu at value) new a =
      each_set P all.lists cpu _
      (each-append P (list_of all cpu)
      (Of (record { ord = all.queued + 1; at = at; value = value }) Unmarked ∷ []) (a cpu)
      (new cpu at value refl, tt))
      a
  each_step P all (Tend cpu number) new a =
      each_set P all.lists cpu (after_tend (list_of all cpu) number)
      (each-remarked P (mark_after_tend number) (list_of all cpu) (a cpu)) a
  each_step P all (Run cpu most) new a =
      each_set P all.lists cpu (after_take (list_of all cpu) most)
      (each-from P (length (take_answer (list_of all cpu) most)) (list_of all cpu) (a cpu)) a
  each_step P all (Migrate cpu) new a =
      let owed = owes_visit all cpu in
      let xs = as_it_leaves (list_of all cpu) owed in
      each_set P (set all.lists 0 (after_migrate (list_of all 0) xs)) cpu [] tt
      (each_set P all.lists 0 (after_migrate (list_of all 0) xs)
      (each-moved P xs (list_of all 0) (each-leaving P owed (list_of all cpu) (a cpu)) (a 0)) a)
  each_step P all BarrierBegin new a = a
  each_step P all (Visit cpu) new a =
      each_visited P all cpu (set all.visited cpu true) (is_visited all cpu) a
  each_step P all BarrierTest new a = each_tested P all (barrier_left all == 0) a
  each_step P all Renumber new a =
      λ c. rw (renumbered_at all.lists c) (each-remarked P mark_renumbered (list_of all c) (a c))

  -- the callback was queued, and is as it was then
  record AsQueued (first : AllLists X) (calls : List (Call X)) (call : Queued X) : Type 0 where
    pub some : 0 < call.ord
    pub was : call.ord ≤ (lists_after first calls).queued
    pub found : queued_as call.ord first calls ≡ Some call

  queued_more : (all : AllLists X) (flags : List Bool) (xs : List (List (Item X))) (b : Bool)
      → (cond b all (record all { lists = xs; visited = flags })).queued ≡ all.queued
  queued_more all flags xs true = refl
  queued_more all flags xs false = refl

  tested_more : (all : AllLists X) (b : Bool)
      → (cond b (record all { running = false }) all).queued ≡ all.queued
  tested_more all true = refl
  tested_more all false = refl

  still : (first : AllLists X) (call : Call X) (calls : List (Call X)) (q : Queued X)
      → AsQueued first calls q → AsQueued first (call ∷ calls) q
  still first (Queue cpu at value) calls q a =
      let all = lists_after first calls in let w = a.was in
      let other = ne_eqb (all.queued + 1) q.ord (λ i. absurd (omega (arith, i, w))) in
      record { some = a.some; was = omega (arith, w); found = rw other a.found }
  still first (Tend cpu number) calls q a = record { some = a.some; was = a.was; found = a.found }
  still first (Run cpu most) calls q a = record { some = a.some; was = a.was; found = a.found }
  still first (Migrate cpu) calls q a = record { some = a.some; was = a.was; found = a.found }
  still first BarrierBegin calls q a = record { some = a.some; was = a.was; found = a.found }
  still first (Visit cpu) calls q a =
      let all = lists_after first calls in let w = a.was in
      let same = queued_more all (set all.visited cpu true)
      (set all.lists cpu (after_entrain (list_of all cpu))) (is_visited all cpu) in
      record { some = a.some; was = omega (arith, w, same); found = a.found }
  still first BarrierTest calls q a =
      let all = lists_after first calls in let w = a.was in
      let same = tested_more all (barrier_left all == 0) in
      record { some = a.some; was = omega (arith, w, same); found = a.found }
  still first Renumber calls q a = record { some = a.some; was = a.was; found = a.found }

  now_queued : (first : AllLists X) (call : Call X) (calls : List (Call X)) (cpu : ℕ) (at : _)
      (value : X)
      → call ≡ Queue cpu at value
      → AsQueued first (call ∷ calls)
      (record { ord = (lists_after first calls).queued + 1; at = at; value = value })
  now_queued first call calls cpu at value is =
      let n = (lists_after first calls).queued + 1 in
      subst (λ c. AsQueued first (c ∷ calls) (record { ord = n; at = at; value = value })) (sym is)
      (record { some = omega arith; was = omega arith; found = rw (eq-eqb n n refl) refl })

  all_as_queued : (first : AllLists X) (calls : List (Call X)) → IsNew first
      → EachOf (AsQueued first calls) (lists_after first calls).lists
  all_as_queued first [] new =
      subst (λ (all : AllLists X). EachOf (AsQueued first []) all.lists) (sym new)
      (λ c. none_of (AsQueued first []) (length first.lists) c)
  all_as_queued first (call ∷ calls) new =
      let all = lists_after first calls in
      let old = all_as_queued first calls new in
      each_step (AsQueued first (call ∷ calls)) all call
      (λ cpu at value is. now_queued first call calls cpu at value is)
      (λ c. each-weaker (AsQueued first calls) (AsQueued first (call ∷ calls))
      (λ q a. still first call calls q a) (list_of all c) (old c))

  -- its place is at most the number of those queued, and at least 1
  pub each_at_most : (first : AllLists X) (calls : List (Call X)) → IsNew first → (c : ℕ)
      → Each (AtMost (lists_after first calls).queued) (list_of (lists_after first calls) c)
  each_at_most first calls new c =
      each-weaker (AsQueued first calls) (AtMost (lists_after first calls).queued) (λ q a. a.was)
      (list_of (lists_after first calls) c) (all_as_queued first calls new c)

  pub none_at_zero : (first : AllLists X) (calls : List (Call X)) → IsNew first → (c : ℕ)
      → lies 0 (list_of (lists_after first calls) c) ≡ 0
  none_at_zero first calls new c =
      none (list_of (lists_after first calls) c)
      (each-weaker (AsQueued first calls) (λ q. 0 < q.ord) (λ q a. a.some)
      (list_of (lists_after first calls) c) (all_as_queued first calls new c))
    where
      none : (xs : List (Item X)) → Each (λ q. 0 < q.ord) xs → lies 0 xs ≡ 0
      none [] a = refl
      none (Marker ∷ xs) a = none xs a
      none (Of call mark ∷ xs) a =
          let i = none xs a.1 in
          let n = ne_eqb call.ord 0 (λ e. absurd (let z = a.0 in omega (arith, e, z))) in
          rw n (omega (arith, i))

  pub handed_was_queued : (first : AllLists X) (calls : List (Call X)) (cpu most at : ℕ)
      (handed : Queued X)
      → IsNew first
      → slice_get (take_answer (list_of (lists_after first calls) cpu) most) at ≡ Some handed
      → queued_as handed.ord first calls ≡ Some handed
  handed_was_queued first calls cpu most at handed new is =
      (each-taken (AsQueued first calls) (list_of (lists_after first calls) cpu) most at handed
      (all_as_queued first calls new cpu) is).found
