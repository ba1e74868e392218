-- How changes of the grace-period state keep its invariant.
use Rattle.std.proofs.Common.{◌≡◌, ℕ, ◌+◌, ◌≤◌, Bool, true, false, List, [], length, set, refl, ap}
use Rattle.std.proofs.Common.{sym, subst, ◌∙◌, arith}
use Rattle.std.specs.Prelude.{All, Result, Ok, Err, IfOk, IfErr, Some, max, if◌then◌else◌}
use Rattle.std.proofs.lemmas.List.{length-map, length-set}
use Rattle.std.proofs.lemmas.List.Elements.{All-set}
use Rattle.rcu_seq.specs.Numbers.{Number, number_at}
use Rattle.rcu_seq.specs.Seq.{Periods, number_of, renumbered, tag_of}
use Rattle.rcu_seq.specs.declared.tag.Tag.{Tag}
use Rattle.rcu_hotplug.specs.Hotplug.{Processors, Begin, cpus_of, after_call}
use Rattle.rcu_cblist.specs.SegList.{Item, after_entrain, greatest, after_migrate, numbers}
use Rattle.rcu_cblist.specs.SegList.{as_it_leaves}
use Rattle.rcu_barrier.specs.Lists.{AllLists, ListsWithRooms, cpus_of as cpus_of_lists, owes_visit}
use Rattle.rcu_barrier.specs.Lists.{is_visited, list_of, lists_after_migrate, lists_after_queue}
use Rattle.rcu_barrier.specs.Lists.{lists_after_run, lists_after_tend, lists_after_visit, with_list}
use Rattle.rcu_barrier.specs.Tending.{after_tend as list_after_tend}
use Rattle.rcu_state.specs.Periods.{greatest_from}
use Rattle.rcu_state.specs.GpState.{AreTimely, Grace, IsNoLater, IsSound, after_end, after_tend}
use Rattle.rcu_barrier.specs.Lists.{lists_after_renumber}
use Rattle.rcu_cblist.specs.SegList.{after_renumber}
use Rattle.rcu_state.proofs.Timely.{all_later, all_next, greatest_is, timely_append}
use Rattle.rcu_state.proofs.Timely.{timely_entrained, timely_get, timely_leaving, timely_moved}
use Rattle.rcu_state.proofs.Timely.{timely_tended, timely_untaken}

-- lists that are the same with their rooms are the same without
pub all_of : {X : Type 0} {old new : ListsWithRooms X} → new ≡ old → new.all ≡ old.all
all_of same = ap (λ lists. lists.all) same

-- if the counter did not change
pub idle_kept : {X : Type 0} (g : Grace X) (seq : Periods) → IsSound g → seq ≡ g.seq
    → IsSound (record g { seq = seq })
idle_kept g seq k is = record { tag = rw is k.tag; sized = k.sized; timely = rw is k.timely }

-- a fact that follows from either result
pub on_either : {A E : Type 0} {R : Type 0} (r : Result A E) (P : A → Type 0) (Q : E → Type 0)
    → IfOk r P → IfErr r Q → ((a : A) → P a → R) → ((e : E) → Q e → R) → R
on_either (Ok a) P Q ok err f h = f a ok
on_either (Err e) P Q ok err f h = h e err

-- with as many lists, each of them timely
pub with_kept : {X : Type 0} (g : Grace X) (needed : Number) (lists : AllLists X) → IsSound g →
    cpus_of_lists lists ≡ cpus_of_lists g.lists → All (AreTimely (tag_of g.seq)) lists.lists →
    IsSound (record g { needed = needed; lists = lists })
with_kept g needed lists k same timely = record {
  tag = k.tag;
  sized = same ∙ k.sized;
  timely = timely;
}

-- if one processor has another list
pub set_kept : {X : Type 0} (g : Grace X) (needed : Number) (lists : AllLists X) (cpu : ℕ)
    (xs : List (Item X))
    → IsSound g
    → lists.lists ≡ set g.lists.lists cpu xs
    → AreTimely (tag_of g.seq) xs
    → IsSound (record g { needed = needed; lists = lists })
set_kept g needed lists cpu xs k is timely =
    with_kept g needed lists k
    (subst (λ l. length l ≡ length g.lists.lists) (sym is) (length-set g.lists.lists cpu xs))
    (subst (All (AreTimely (tag_of g.seq))) (sym is)
    (All-set (AreTimely (tag_of g.seq)) g.lists.lists cpu xs timely k.timely))

-- if nothing changed
pub same_kept : {X : Type 0} (g : Grace X) (lists : AllLists X) → IsSound g → lists ≡ g.lists
    → IsSound (record g { lists = lists })
same_kept g lists k is =
    with_kept g g.needed lists k (ap (λ l. cpus_of_lists l) is) (rw is k.timely)

-- each call keeps the invariant: queueing a callback
pub queued_kept : {X : Type 0} (g : Grace X) (cpu : ℕ) (at : Tag) (value : X) (lists : AllLists X)
    → IsSound g → at ≡ tag_of g.seq → lists ≡ lists_after_queue g.lists cpu at value
    → IsSound (record g { lists = lists })
queued_kept g cpu at value lists k now is =
    let no_later : IsNoLater (tag_of g.seq) at = subst (λ t. IsNoLater (tag_of g.seq) t) (sym now)
    (omega arith, λ _. omega arith) in
    set_kept g g.needed lists cpu _ k (ap (λ l. l.lists) is)
    (timely_append (tag_of g.seq) (list_of g.lists cpu) _
    (timely_get (tag_of g.seq) g.lists.lists cpu k.timely) (no_later, tt))

-- a tend
pub tended_kept : {X : Type 0} (g : Grace X) (needed : Number) (cpu : ℕ) (at : Number)
    (lists : AllLists X)
    → IsSound g
    → at ≡ number_of g.seq
    → lists ≡ lists_after_tend g.lists cpu at
    → IsSound (record g { needed = needed; lists = lists })
tended_kept g needed cpu at lists k now is =
    set_kept g needed lists cpu (list_after_tend (list_of g.lists cpu) at) k (ap (λ l. l.lists) is)
    (rw now (timely_tended (tag_of g.seq) (list_of g.lists cpu)
    (timely_get (tag_of g.seq) g.lists.lists cpu k.timely)))

-- a tend whose list waits for a number needs the greatest
pub tended_is : {X : Type 0} (g : Grace X) (needed : Number) (cpu : ℕ) (at most : Number)
    (lists : AllLists X)
    → at ≡ number_of g.seq
    → lists ≡ lists_after_tend g.lists cpu at
    → greatest (numbers (list_of lists cpu)) ≡ Some most
    → needed ≡ max g.needed most
    → record g { needed = needed; lists = lists } ≡ after_tend g cpu
tended_is g needed cpu at most lists now is waits needs =
    let need : needed ≡ greatest_from g.needed (numbers (list_of lists cpu)) =
    needs ∙ greatest_is g.needed most (numbers (list_of lists cpu)) waits in
    let left : lists ≡ lists_after_tend g.lists cpu (number_of g.seq) = is
    ∙ ap (λ n. lists_after_tend g.lists cpu n) now in
    ap (λ n. record g { needed = n; lists = lists }) need
    ∙ ap (λ l. record g { needed = greatest_from g.needed (numbers (list_of l cpu)); lists = l })
    left

-- a run
pub run_kept : {X : Type 0} (g : Grace X) (cpu most : ℕ) (lists : AllLists X) → IsSound g
    → lists ≡ lists_after_run g.lists cpu most
    → IsSound (record g { lists = lists })
run_kept g cpu most lists k is =
    set_kept g g.needed lists cpu _ k (ap (λ l. l.lists) is)
    (timely_untaken (tag_of g.seq) most (list_of g.lists cpu)
    (timely_get (tag_of g.seq) g.lists.lists cpu k.timely))

-- a migration
pub migrated_kept : {X : Type 0} (g : Grace X) (cpu : ℕ) (lists : AllLists X) → IsSound g
    → lists ≡ lists_after_migrate g.lists cpu
    → IsSound (record g { lists = lists })
migrated_kept g cpu lists k is =
    let n = tag_of g.seq in
    let all = g.lists.lists in
    let xs = as_it_leaves (list_of g.lists cpu) (owes_visit g.lists cpu) in
    let ys = after_migrate (list_of g.lists 0) xs in
    let gone : AreTimely n xs = timely_leaving n (owes_visit g.lists cpu) (list_of g.lists cpu)
    (timely_get n all cpu k.timely) in
    let timely : AreTimely n ys =
    timely_moved n xs (list_of g.lists 0) gone (timely_get n all 0 k.timely) in
    let left : lists.lists ≡ set (set all 0 ys) cpu [] = ap (λ l. l.lists) is in
    with_kept g g.needed lists k
    (ap (λ l. length l) left ∙ length-set (set all 0 ys) cpu [] ∙ length-set all 0 ys)
    (rw left
    (All-set (AreTimely n) (set all 0 ys) cpu [] tt
    (All-set (AreTimely n) all 0 ys timely k.timely)))

visited_at : {X : Type 0} (g : Grace X) (cpu : ℕ) (flags : List Bool) (flag : Bool)
    (lists : AllLists X)
    → IsSound g
    → lists ≡ (if flag then g.lists else record
    (with_list g.lists cpu (after_entrain (list_of g.lists cpu))) { visited = flags })
    → IsSound (record g { lists = lists })
visited_at g cpu flags true lists k is = same_kept g lists k is
visited_at g cpu flags false lists k is =
    set_kept g g.needed lists cpu (after_entrain (list_of g.lists cpu)) k (ap (λ l. l.lists) is)
    (timely_entrained (tag_of g.seq) (list_of g.lists cpu)
    (timely_get (tag_of g.seq) g.lists.lists cpu k.timely))

-- a visit
pub visited_kept : {X : Type 0} (g : Grace X) (cpu : ℕ) (lists : AllLists X) → IsSound g
    → lists ≡ lists_after_visit g.lists cpu
    → IsSound (record g { lists = lists })
visited_kept g cpu lists k is =
    visited_at g cpu (set g.lists.visited cpu true) (is_visited g.lists cpu) lists k is

-- a grace period began
pub begun_kept : {X : Type 0} (g : Grace X) (seq : Periods) (processors : Processors)
    → IsSound g
    → g.seq.running ≡ false
    → seq ≡ record g.seq { running = true }
    → processors ≡ after_call g.processors (Begin (tag_of seq))
    → cpus_of processors ≡ cpus_of g.processors
    → IsSound (record g { seq = seq; processors = processors })
begun_kept g seq processors k idle is begins sized =
    let rises : number_of g.seq ≤ number_of seq = rw is (rises_to g.seq.ends g.seq.running idle) in
    record {
      tag = λ _. subst (λ (p : Processors). p.tag ≡ tag_of seq) (sym begins) refl;
      sized = k.sized ∙ sym sized;
      timely = all_later (tag_of g.seq) (tag_of seq) g.lists.lists
          (sym (ap (λ (p : Periods). p.epoch) is)) rises k.timely;
    }
  where
    rises_to : (ends : ℕ) (running : Bool) → running ≡ false
        → number_at ends running ≤ number_at ends true
    rises_to ends true idle = cc
    rises_to ends false idle = omega arith

-- a grace period ended
pub ended_kept : {X : Type 0} (g : Grace X) (seq : Periods) → IsSound g →
    seq ≡ record g.seq { ends = g.seq.ends + 1; running = false } → IsSound (record g { seq = seq })
ended_kept g seq k is =
    record {
      tag = λ runs. let idle = ap (λ (p : Periods). p.running) is in cc;
      sized = k.sized;
      timely = rw is (all_later (tag_of g.seq) (tag_of (after_end g).seq) g.lists.lists refl
          (rises g.seq.ends g.seq.running) k.timely);
    }
  where
    rises : (ends : ℕ) (running : Bool) → number_at ends running ≤ number_at (ends + 1) false
    rises ends true = omega arith
    rises ends false = omega arith

-- a renumbering
pub renumbered_kept : {X : Type 0} (g : Grace X) (seq : Periods) (needed : Number)
    (lists : AllLists X)
    → IsSound g
    → g.seq.running ≡ false
    → seq ≡ renumbered g.seq
    → lists ≡ lists_after_renumber g.lists
    → IsSound (record g { seq = seq; needed = needed; lists = lists })
renumbered_kept g seq needed lists k idle is lost = record {
  tag = λ runs. let same = ap (λ (p : Periods). p.running) is in absurd (cc);
  sized = ap (λ l. cpus_of_lists l) lost ∙ length-map g.lists.lists after_renumber ∙ k.sized;
  timely = rw (lost, is)
      (all_next (tag_of g.seq) (tag_of (renumbered g.seq)) g.lists.lists (omega arith) k.timely);
}
