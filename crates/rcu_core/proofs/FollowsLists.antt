-- The lists and the barrier after a call are as its event defines them.
use Rattle.std.proofs.Common.{◌≡◌, ℕ, zero, suc, map, ◌+◌, ◌<◌, Bool, true, false, not, cond, ◌&&◌}
use Rattle.std.proofs.Common.{◌||◌, List, [], ◌∷◌, length, refl, sym, ap, ap₂, ◌∙◌, arith, eqb}
use Rattle.std.proofs.Common.{get_or, slice_set}
use Rattle.std.proofs.lemmas.Bool.Decides.{nat_tests}
use Rattle.std.proofs.lemmas.List.{length-set}
use Rattle.rcu_node.proofs.CpuSetLemmas.{in_none}
use Rattle.rcu_cblist.specs.SegList.{Item, after_entrain, after_migrate, after_renumber, after_take}
use Rattle.rcu_cblist.specs.SegList.{as_it_leaves}
use Rattle.rcu_barrier.specs.Lists.{AllLists, owes_visit, is_visited, list_of, with_list}
use Rattle.rcu_barrier.specs.Lists.{lists_after_barrier_begin, lists_after_migrate}
use Rattle.rcu_barrier.specs.Lists.{lists_after_queue, lists_after_run, lists_after_renumber}
use Rattle.rcu_barrier.specs.Lists.{lists_after_tend, lists_after_visit}
use Rattle.rcu_barrier.specs.Tending.{after_tend}
use Rattle.rcu_core.specs.Callbacks.{barrier_runs, is_owed, list, was_visited}
use Rattle.rcu_core.specs.Core.{RepresentsCalls}
use Rattle.rcu_core.specs.History.{History, number, tag_now}
use Rattle.rcu_seq.specs.declared.tag.Tag.{Tag}
use Rattle.rcu_core.specs.Situation.{calls_in}
use Rattle.rcu_core.specs.declared.event.Event.TheVariants.{Offline, Queue, Tend, Run, BarBegin}
use Rattle.rcu_core.specs.declared.event.Event.TheVariants.{Visit, BarTest, Renumber}
use Rattle.rcu_core.proofs.Kept.{queue_counts}
use Rattle.rcu_core.proofs.Writes.{eqb_self, marked, one_written}

-- the lists and the barrier are as a history defines them
abbrev pub Hold : AllLists ℕ → History → Type 0
Hold all h = RepresentsCalls all (calls_in h)

-- a callback is queued
pub calls_queued : (all : AllLists ℕ) (h : History) (c value : ℕ) (n : Tag)
    → c < length all.lists → n ≡ tag_now h → Hold all h
    → Hold (lists_after_queue all c n value) (Queue c value ∷ h)
calls_queued all h c value n l now x = record {
  queued = ap (λ n. n + 1) x.queued ∙ (let q = queue_counts c value h in omega (arith, q));
  list = one_written [] all.lists c _ (λ k. list k h) (λ k. list k (Queue c value ∷ h)) l x.list
      (rw (eqb_self c, x.list c, x.queued, now) refl) (λ k n. rw n refl);
  barrier = x.barrier;
  owed = x.owed;
}

-- a list is tended
pub calls_tended : (all : AllLists ℕ) (h : History) (c n : ℕ)
    → c < length all.lists → n ≡ number h → Hold all h
    → Hold (lists_after_tend all c n) (Tend c ∷ h)
calls_tended all h c n l now x = record {
  queued = x.queued;
  list = one_written [] all.lists c _ (λ k. list k h) (λ k. list k (Tend c ∷ h)) l x.list
      (rw (eqb_self c)
      (ap₂ (λ (n : ℕ) (xs : List (Item ℕ)). after_tend xs n) (sym now) (sym (x.list c))))
      (λ k n. rw n refl);
  barrier = x.barrier;
  owed = x.owed;
}

-- callbacks are handed out
pub calls_run : (all : AllLists ℕ) (h : History) (c most : ℕ) → c < length all.lists → Hold all h →
    Hold (lists_after_run all c most) (Run c most ∷ h)
calls_run all h c most l x = record {
  queued = x.queued;
  list = one_written [] all.lists c _ (λ k. list k h) (λ k. list k (Run c most ∷ h)) l x.list
      (rw (eqb_self c) (ap (λ (xs : List (Item ℕ)). after_take xs most) (sym (x.list c))))
      (λ k n. rw n refl);
  barrier = x.barrier;
  owed = x.owed;
}

-- a barrier begins
pub calls_begun : (all : AllLists ℕ) (h : History) → Hold all h
    → Hold (lists_after_barrier_begin all) (BarBegin ∷ h)
calls_begun all h x = record {
  queued = x.queued;
  list = x.list;
  barrier = refl;
  owed = λ k. ap (λ b. not b) (in_none (length all.lists) k);
}

-- after a visit the processor is owed none, and the others as before
owed_after : (r b e p q : Bool) → r ≡ b → (r && not p) ≡ (b && not q)
    → (r && not (e || p)) ≡ (b && not (e || q))
owed_after r b true p q runs owed = ap (λ a. a && false) runs
owed_after r b false p q runs owed = owed

no_barrier : (r b e p q : Bool) → r ≡ false → r ≡ b → (r && not p) ≡ (b && not (e || q))
no_barrier r b e p q off runs =
    ap (λ a. a && not p) off ∙ sym (ap (λ a. a && not (e || q)) (sym runs ∙ off))

-- the processors owed a visit once this one was visited
visit_owed : (all : AllLists ℕ) (h : History) (c k : ℕ) (seen : Bool)
    → Hold all h
    → c < length all.visited
    → is_visited all c ≡ seen
    → (all.running && not (get_or (cond seen all.visited (slice_set all.visited c true)) k false))
    ≡ (barrier_runs h && not (eqb c k || was_visited k h))
visit_owed all h c k seen x l e =
    ap (λ b. all.running && not b) (marked seen all.visited c k l e)
    ∙ owed_after all.running (barrier_runs h) (eqb c k) (get_or all.visited k false)
    (was_visited k h) x.barrier (x.owed k)

either : {X : Type 0} (b : Bool) (x : X) → x ≡ cond b x x
either true x = refl
either false x = refl

visit_kept : (all : AllLists ℕ) (h : History) (c : ℕ) (seen : Bool)
    → Hold all h
    → c < length all.lists
    → c < length all.visited
    → all.running ≡ true
    → is_visited all c ≡ seen
    → Hold (cond seen all (record (with_list all c (after_entrain (list_of all c))) {
      visited = slice_set all.visited c true;
    })) (Visit c ∷ h)
visit_kept all h c true x l m runs e =
    let unowed : is_owed c h ≡ false = sym (x.owed c) ∙ ap₂ (λ a b. a && not b) runs e in
    record {
      queued = x.queued;
      list = λ k. x.list k ∙ either (eqb c k) (list k h)
          ∙ ap (λ o. cond (eqb c k) (as_it_leaves (list k h) o) (list k h)) (sym unowed);
      barrier = x.barrier;
      owed = λ k. visit_owed all h c k true x m e;
    }
visit_kept all h c false x l m runs e =
    let owed : is_owed c h ≡ true = sym (x.owed c) ∙ ap₂ (λ a b. a && not b) runs e in
    record {
      queued = x.queued;
      list = one_written [] all.lists c _ (λ k. list k h) (λ k. list k (Visit c ∷ h)) l x.list
          (rw (eqb_self c)
          (ap₂ (λ (o : Bool) (xs : List (Item ℕ)). as_it_leaves xs o) owed (sym (x.list c))))
          (λ k n. rw n refl);
      barrier = x.barrier;
      owed = λ k. visit_owed all h c k false x m e;
    }

-- the barrier visits a processor
pub calls_visited : (all : AllLists ℕ) (h : History) (c : ℕ)
    → c < length all.lists → c < length all.visited → all.running ≡ true → Hold all h
    → Hold (lists_after_visit all c) (Visit c ∷ h)
calls_visited all h c l m runs x = visit_kept all h c (is_visited all c) x l m runs refl

-- a barrier that waits for nothing is over
pub calls_tested : (all : AllLists ℕ) (h : History) → Hold all h
    → Hold (record all { running = false }) (BarTest ∷ h)
calls_tested all h x = record { queued = x.queued; list = x.list; barrier = refl; owed = λ k. refl }

turned_about : (k : ℕ) → eqb 0 k ≡ false → eqb k 0 ≡ false
turned_about k n = grind (arith, nat_tests)

-- the list of a processor that departs moves to processor 0
moved_lists : (all : AllLists ℕ) (h : History) (c : ℕ) → c < length all.lists → Hold all h →
    (k : ℕ) → list_of (lists_after_migrate all c) k ≡ list k (Offline c ∷ h)
moved_lists all h c l x =
    let boot = after_migrate (list_of all 0) (as_it_leaves (list_of all c) (owes_visit all c)) in
    let own : as_it_leaves (list_of all c) (owes_visit all c)
    ≡ as_it_leaves (list c h) (is_owed c h) =
    ap₂ (λ (o : Bool) (xs : List (Item ℕ)). as_it_leaves xs o) (x.owed c) (x.list c) in
    let between = λ (k : ℕ).
    cond (eqb k 0) (after_migrate (list k h) (as_it_leaves (list c h) (is_owed c h))) (list k h) in
    one_written [] (slice_set all.lists 0 boot) c [] between (λ k. list k (Offline c ∷ h))
    (rw length-set l)
    (one_written [] all.lists 0 boot (λ k. list k h) between (omega arith) x.list
    (ap₂ (λ (xs ys : List (Item ℕ)). after_migrate ys xs) (sym own) (sym (x.list 0)))
    (λ k n. rw (turned_about k n) refl))
    (rw (eqb_self c) refl) (λ k n. rw n refl)

move_owed : (all : AllLists ℕ) (h : History) (c k : ℕ) (r seen : Bool)
    → Hold all h
    → c < length all.visited
    → all.running ≡ r
    → is_visited all c ≡ seen
    → (all.running
    && not (get_or (cond (r && not seen) (slice_set all.visited c true) all.visited) k false))
    ≡ (barrier_runs h && not (eqb c k || was_visited k h))
move_owed all h c k true true x l runs e = visit_owed all h c k true x l e
move_owed all h c k true false x l runs e = visit_owed all h c k false x l e
move_owed all h c k false seen x l runs e =
    no_barrier all.running (barrier_runs h) (eqb c k) (get_or all.visited k false) (was_visited k h)
    runs x.barrier

-- and a barrier has visited it
pub calls_moved : (all : AllLists ℕ) (h : History) (c : ℕ)
    → c < length all.lists → c < length all.visited → Hold all h
    → Hold (lists_after_migrate all c) (Offline c ∷ h)
calls_moved all h c l m x = record {
  queued = x.queued;
  list = moved_lists all h c l x;
  barrier = x.barrier;
  owed = λ k. move_owed all h c k all.running (is_visited all c) x m refl refl;
}

get_renumbered : (lists : List (List (Item ℕ))) (k : ℕ)
    → get_or (map after_renumber lists) k [] ≡ after_renumber (get_or lists k [])
get_renumbered [] k = refl
get_renumbered (xs ∷ lists) zero = refl
get_renumbered (xs ∷ lists) (suc k) = get_renumbered lists k

-- a renumbering
pub calls_renumbered : (all : AllLists ℕ) (h : History) → Hold all h
    → Hold (lists_after_renumber all) (Renumber ∷ h)
calls_renumbered all h x = record {
  queued = x.queued;
  list =
      λ k. get_renumbered all.lists k ∙ ap (λ (xs : List (Item ℕ)). after_renumber xs) (x.list k);
  barrier = x.barrier;
  owed = x.owed;
}
