-- The invariant is kept if one list changes, and if one moves to the first.
use Rattle.std.proofs.Common.{◌≡◌, ◌≢◌, get_or-set_other, ℕ, ◌+◌, ◌<◌, ◌≤◌, Bool, true, false, not}
use Rattle.std.proofs.Common.{◌&&◌, ◌∙◌, List, [], length, set, get_or, refl, ap, sym, subst, arith}
use Rattle.std.specs.Prelude.{◌%◌, ◌^◌, ◌∷◌, if◌then◌else◌, replicate}
use Rattle.std.proofs.lemmas.List.{length-replicate, length-set, get_or_default}
use Rattle.rcu_cblist.specs.SegList.{Item, after_migrate, as_it_leaves, is_empty, markers}
use Rattle.rcu_cblist.proofs.SegListLemmas.{markers_entrained, markers_moved}
use Rattle.std.proofs.lemmas.List.Elements.{All-nil}
use Rattle.rcu_barrier.specs.Tending.{AreFours}
use Rattle.rcu_barrier.specs.Lists.{AllFours, AllLists, IsSound, list_of, lists_after_move}
use Rattle.rcu_barrier.specs.Lists.{markers_in, unvisited}
use Rattle.rcu_barrier.proofs.Fours.{fours_get, fours_none, fours_moved, fours_set}
use Rattle.rcu_barrier.proofs.Markers.{markers_none, markers_set, unvisited_all}

-- a list that was read is the processor's
pub list_is : {X : Type 0} (lists : List (List (Item X))) (cpu : ℕ) (old : List (Item X))
    → cpu < length lists → old ≡ get_or lists cpu old → old ≡ get_or lists cpu []
list_is lists cpu old within read = read ∙ get_or_default lists cpu old [] within

-- if a visit is owed, a barrier runs, and the processor is unvisited
pub owed_parts : (running visited : Bool) → (running && not visited) ≡ true
    → (running ≡ true) × (visited ≡ false)
owed_parts true false owed = (refl, refl)
owed_parts true true owed = cc
owed_parts false visited owed = cc

-- the invariant holds at first
pub kept_first : (X : Type 0) (cpus most : ℕ) (lists : List (List (Item X))) (flags : List Bool)
    → 1 ≤ cpus
    → cpus ≤ 4096
    → 1 ≤ most
    → most ≤ 2 ^ 62
    → lists ≡ replicate cpus []
    → flags ≡ replicate cpus true
    → (0 ≡ markers_in lists)
    × IsSound (record { lists = lists; visited = flags; running = false; queued = 0; most = most })
kept_first X cpus most lists flags some few most_some most_few empty all =
    let long : length lists ≡ cpus = ap length empty ∙ length-replicate cpus [] in
    let sized : length flags ≡ cpus = ap length all ∙ length-replicate cpus true in
    let count : markers_in lists ≡ 0 = ap markers_in empty ∙ markers_none X cpus in
    let left : unvisited flags ≡ 0 = ap unvisited all ∙ unvisited_all cpus in (
      sym count,
      record {
        some = omega arith;
        few = omega arith;
        sized = sized ∙ sym long;
        within = omega arith;
        idle = λ off. omega arith;
        counted = omega arith;
        most_some = most_some;
        most_few = most_few;
        fours = subst AllFours (sym empty) (fours_none X cpus);
      },
    )

-- one list changes, and perhaps visits and the count of queued callbacks
pub relisted : {X : Type 0} (all : AllLists X) (m n queued cpu : ℕ) (old xs : List (Item X))
    (flags : List Bool)
    → m ≡ markers_in all.lists
    → IsSound all
    → cpu < length all.lists
    → old ≡ get_or all.lists cpu old
    → length flags ≡ length all.visited
    → n + markers old ≡ m + markers xs
    → n + unvisited flags ≤ m + unvisited all.visited
    → queued ≤ all.most
    → (AreFours old → AreFours xs)
    → (n ≡ markers_in (set all.lists cpu xs))
    × IsSound (record {
      lists = set all.lists cpu xs;
      visited = flags;
      running = all.running;
      queued = queued;
      most = all.most;
    })
relisted all m n queued cpu old xs flags count kept inside read sized now fewer few keeps =
    let is = list_is all.lists cpu old inside read in
    let change = markers_set all.lists cpu xs inside in
    let same = ap markers is in
    let long = length-set all.lists cpu xs in
    let some = kept.some in
    let most = kept.few in
    let within = kept.within in
    let fours = keeps (subst AreFours (sym is) (fours_get all.lists cpu kept.fours)) in (
      omega arith,
      record {
        some = omega arith;
        few = omega arith;
        sized = sized ∙ (kept.sized ∙ sym long);
        within = omega arith;
        idle = λ off. let none = kept.idle off in omega arith;
        counted = few;
        most_some = kept.most_some;
        most_few = kept.most_few;
        fours = fours_set all.lists cpu xs kept.fours fours;
      },
    )

-- a list that leaves gets a marker if a visit is owed and it is not empty
markers_leaving : {X : Type 0} (xs : List (Item X)) (owed : Bool) →
    markers (as_it_leaves xs owed) ≡ markers xs + (if owed && not (is_empty xs) then 1 else 0)
markers_leaving xs false = omega arith
markers_leaving [] true = refl
markers_leaving (x ∷ xs) true = markers_entrained (x ∷ xs) refl

-- one marker at most for a visit
marked_within : (owed empty : Bool) → (if owed && not empty then 1 else 0) ≤ (if owed then 1 else 0)
marked_within true true = omega arith
marked_within true false = omega arith
marked_within false empty = omega arith

-- a list moves to the first one, with a marker behind it if a visit is owed
pub moved_kept : {X : Type 0} (all : AllLists X) (m n cpu : ℕ) (owed : Bool) (flags : List Bool)
    → m ≡ markers_in all.lists
    → IsSound all
    → 0 < cpu
    → cpu < length all.lists
    → length flags ≡ length all.visited
    → n ≡ m + (if owed && not (is_empty (list_of all cpu)) then 1 else 0)
    → unvisited flags + (if owed then 1 else 0) ≡ unvisited all.visited
    → (n ≡ markers_in (lists_after_move all.lists cpu owed))
    × IsSound (record {
      lists = lists_after_move all.lists cpu owed;
      visited = flags;
      running = all.running;
      queued = all.queued;
      most = all.most;
    })
moved_kept all m n cpu owed flags count kept other inside sized now fewer =
    let old = get_or all.lists cpu [] in
    let xs = as_it_leaves old owed in
    let there = get_or all.lists 0 [] in
    let first = set all.lists 0 (after_migrate there xs) in
    let zero_inside : 0 < length all.lists = omega arith in
    let long_first = length-set all.lists 0 (after_migrate there xs) in
    let inside_first : cpu < length first = omega arith in
    let long = length-set first cpu [] in
    let change_first = markers_set all.lists 0 (after_migrate there xs) zero_inside in
    let change = markers_set first cpu [] inside_first in
    let both = markers_moved xs there in
    let put = markers_leaving old owed in
    let least = marked_within owed (is_empty old) in
    let apart : cpu ≢ 0 = omega arith in
    let same : get_or first cpu [] ≡ old = rw get_or-set_other refl in
    let same_count = ap markers same in
    let some = kept.some in
    let most = kept.few in
    let within = kept.within in
    let fours_first = fours_set all.lists 0 (after_migrate there xs) kept.fours
    (fours_moved xs there (fours_get all.lists 0 kept.fours)) in (
      omega arith,
      record {
        some = omega arith;
        few = omega arith;
        sized = sized ∙ (kept.sized ∙ sym (long ∙ long_first));
        within = omega arith;
        idle = λ off. let none = kept.idle off in omega arith;
        counted = kept.counted;
        most_some = kept.most_some;
        most_few = kept.most_few;
        fours = fours_set first cpu [] fours_first (All-nil (λ n. n % 4 ≡ 0));
      },
    )
