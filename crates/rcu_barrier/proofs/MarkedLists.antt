-- For callers: each callback of a run's lists waits for at most a number, if each tend was at the
-- number of its time.
use Rattle.std.proofs.Common.{ℕ, ◌+◌, ◌≤◌, Bool, true, false, List, [], ◌∷◌}
use Rattle.std.proofs.Common.{cond, eqb, set, get_or}
use Rattle.std.specs.Prelude.{All}
use Rattle.std.proofs.lemmas.List.Elements.{All-nil, All-cons, All-head, All-tail, All-weaker}
use Rattle.std.proofs.lemmas.List.Elements.{All-push, All-map}
use Rattle.rcu_seq.specs.Numbers.{snapshot}
use Rattle.rcu_seq.specs.declared.tag.Tag.{Tag}
use Rattle.rcu_cblist.specs.SegList.{IsAtMost, Item, Of, Marker, Unmarked, Until, Done}
use Rattle.rcu_cblist.specs.SegList.{after_entrain, after_migrate, after_take, as_it_leaves}
use Rattle.rcu_cblist.specs.SegList.{numbers, remarked}
use Rattle.rcu_cblist.proofs.SegListLemmas.{each_entrained, each_moved, each_untaken}
use Rattle.rcu_barrier.specs.Lists.{AllLists, barrier_left, is_visited, list_of, owes_visit}
use Rattle.rcu_barrier.specs.Lists.{with_list}
use Rattle.rcu_barrier.specs.Runs.{after_call, Queue, Tend, Run, Migrate, Visit, BarrierTest}
use Rattle.rcu_barrier.specs.Tending.{mark_after_tend, after_tend}
use Rattle.rcu_barrier.proofs.EachCallback.{at_set}
use Rattle.rcu_barrier.proofs.Maturing.{MarkedBy, each_leaving, marked_tended, unmarked_by}

module _ {X : Type 0} where
  -- each callback of a list waits for at most a number, if its numbers are at most that
  pub marked_from : (n : ℕ) (xs : List (Item X)) → IsAtMost n xs → All (MarkedBy n) xs
  marked_from n [] a = All-nil (MarkedBy n)
  marked_from n (Marker ∷ xs) a = All-cons (MarkedBy n) Marker xs tt (marked_from n xs a)
  marked_from n (Of call Unmarked ∷ xs) a =
      All-cons (MarkedBy n) (Of call Unmarked) xs tt (marked_from n xs a)
  marked_from n (Of call (Until k) ∷ xs) a =
      All-cons (MarkedBy n) (Of call (Until k)) xs (All-head (λ m. m ≤ n) k (numbers xs) a)
      (marked_from n xs (All-tail (λ m. m ≤ n) k (numbers xs) a))
  marked_from n (Of call Done ∷ xs) a =
      All-cons (MarkedBy n) (Of call Done) xs tt (marked_from n xs a)

  -- one of the lists becomes another
  marked_set : (n : ℕ) (lists : List (List (Item X))) (d c : ℕ) (xs : List (Item X))
      → All (MarkedBy n) xs → All (MarkedBy n) (get_or lists c [])
      → All (MarkedBy n) (get_or (set lists d xs) c [])
  marked_set n lists d c xs each others =
      at_set (All (MarkedBy n)) lists d c xs [] (All-nil (MarkedBy n)) (λ _. each) (λ _. others)

  -- each callback of each list waits for at most a number
  abbrev pub AreMarked : ℕ → AllLists X → Type 0
  AreMarked n all = (c : ℕ) → All (MarkedBy n) (list_of all c)

  -- and so it is after each call
  pub marked_queue : (n : ℕ) (all : AllLists X) (d : ℕ) (at : Tag) (value : X) → AreMarked n all
      → AreMarked n (after_call all (Queue d at value))
  marked_queue n all d at value a = λ c.
      marked_set n all.lists d c _ (All-push (MarkedBy n) (list_of all d) (Of (record {
        ord = all.queued + 1;
        at = at;
        value = value;
      }) Unmarked) (a d) tt) (a c)

  pub marked_tend : (v : ℕ) (all : AllLists X) (d : ℕ) → AreMarked (snapshot v) all
      → AreMarked (snapshot v) (after_call all (Tend d v))
  marked_tend v all d a = λ c.
      let K = MarkedBy (snapshot v) in
      let change = remarked (mark_after_tend v) in
      marked_set (snapshot v) all.lists d c (after_tend (list_of all d) v)
      (All-map K change (list_of all d)
      (All-weaker K (λ x. K (change x)) (marked_tended v) (list_of all d) (a d)))
      (a c)

  pub marked_run : (n : ℕ) (all : AllLists X) (d most : ℕ) → AreMarked n all
      → AreMarked n (after_call all (Run d most))
  marked_run n all d most a = λ c.
      marked_set n all.lists d c (after_take (list_of all d) most)
      (each_untaken (MarkedBy n) most (list_of all d) (a d)) (a c)

  pub marked_visit : (n : ℕ) (all : AllLists X) (d : ℕ) → AreMarked n all
      → AreMarked n (after_call all (Visit d))
  marked_visit n all d a = λ c. either c (is_visited all d)
    where
      either : (c : ℕ) (seen : Bool)
          → All (MarkedBy n) (list_of (cond seen all (record (with_list all d
          (after_entrain (list_of all d))) { visited = set all.visited d true })) c)
      either c true = a c
      either c false =
          marked_set n all.lists d c (after_entrain (list_of all d))
          (each_entrained (MarkedBy n) (list_of all d) tt (a d)) (a c)

  pub marked_test : (n : ℕ) (all : AllLists X) → AreMarked n all
      → AreMarked n (after_call all BarrierTest)
  marked_test n all a = λ c. either c (eqb (barrier_left all) 0)
    where
      either : (c : ℕ) (done : Bool)
          → All (MarkedBy n) (list_of (cond done (record all { running = false }) all) c)
      either c true = a c
      either c false = a c

  pub marked_migrate : (n : ℕ) (all : AllLists X) (d : ℕ) → AreMarked n all
      → AreMarked n (after_call all (Migrate d))
  marked_migrate n all d a = λ c.
      let K = MarkedBy n in
      let xs = as_it_leaves (list_of all d) (owes_visit all d) in
      let new = after_migrate (list_of all 0) xs in
      let moved = each_moved K xs (list_of all 0) (λ x _. unmarked_by n x)
      (each_leaving K (owes_visit all d) (list_of all d) tt (a d)) (a 0) in
      marked_set n (set all.lists 0 new) d c [] (All-nil K)
      (marked_set n all.lists 0 c new moved (a c))

  -- so its numbers are
  pub at_most_from : (n : ℕ) (xs : List (Item X)) → All (MarkedBy n) xs → IsAtMost n xs
  at_most_from n [] a = All-nil (λ m. m ≤ n)
  at_most_from n (Marker ∷ xs) a = at_most_from n xs (All-tail (MarkedBy n) Marker xs a)
  at_most_from n (Of call Unmarked ∷ xs) a =
      at_most_from n xs (All-tail (MarkedBy n) (Of call Unmarked) xs a)
  at_most_from n (Of call (Until k) ∷ xs) a =
      All-cons (λ m. m ≤ n) k (numbers xs) (All-head (MarkedBy n) (Of call (Until k)) xs a)
      (at_most_from n xs (All-tail (MarkedBy n) (Of call (Until k)) xs a))
  at_most_from n (Of call Done ∷ xs) a =
      at_most_from n xs (All-tail (MarkedBy n) (Of call Done) xs a)
