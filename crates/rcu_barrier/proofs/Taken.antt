-- Lists of which one hands out callbacks: their invariant, and what contracts see.
use Rattle.std.proofs.Common.{◌≡◌, ℕ, ◌-◌, ◌<◌, ◌≤◌, Bool, List, [], length, set, get_or, refl, ap}
use Rattle.std.proofs.Common.{sym, subst, arith}
use Rattle.rcu_cblist.specs.SegList.{Item, Segmented, after_take, markers, markers_passed, on_items}
use Rattle.rcu_cblist.proofs.SegListLemmas.{markers_untaken}
use Rattle.rcu_barrier.specs.Tending.{AreFours}
use Rattle.rcu_barrier.specs.Lists.{AllLists, IsSound, ListsWithRooms, items_in, lists_after_run}
use Rattle.rcu_barrier.specs.Lists.{markers_in, on_all, rooms_in}
use Rattle.rcu_barrier.proofs.Fours.{fours_untaken}
use Rattle.rcu_barrier.proofs.Markers.{markers_set}
use Rattle.rcu_barrier.proofs.Rooms.{both_same, changed_items, read_items, relisted_in, same_rooms}
use Rattle.rcu_barrier.proofs.Rooms.{with_rooms}

module _ {X : Type 0} (lists : List (Segmented X)) (visited : List Bool) (running : Bool)
    (queued most cpu few : ℕ) (old new : Segmented X) (inside : cpu < length (items_in lists))
    (read : old ≡ get_or lists cpu old)
    (left : new ≡ on_items (λ xs. after_take xs few) old) where
  -- what contracts see of lists with these items
  abbrev all_of : List (List (Item X)) → AllLists X
  all_of items = record {
    lists = items;
    visited = visited;
    running = running;
    queued = queued;
    most = most;
  }

  -- and of their rooms beside them
  abbrev shown : List (Segmented X) → ListsWithRooms X
  shown ls = with_rooms (all_of (items_in ls)) (rooms_in ls)

  -- they are as after a run of this number
  pub taken_view :
      shown (set lists cpu new) ≡ on_all (λ all. lists_after_run all cpu few) (shown lists)
  taken_view =
      let items = ap (λ l. l.items) left in
      let now = changed_items (λ xs. after_take xs few) lists cpu old new inside read items in
      both_same _ _ _ _ (ap all_of now) (same_rooms lists cpu old new read (ap (λ l. l.room) left))

  -- there are no fewer markers than it passes
  pub taken_markers : (m passed : ℕ) → m ≡ markers_in (items_in lists) →
      passed ≡ markers_passed old.items few →
      passed ≤ m
  taken_markers m passed count is_passed =
      let change = markers_set (items_in lists) cpu [] inside in
      let is = ap markers (read_items lists cpu old inside read) in
      let passes = markers_untaken few old.items in
      omega arith

  -- the invariant is kept
  pub taken_kept : (m passed : ℕ) → m ≡ markers_in (items_in lists) →
      IsSound (all_of (items_in lists)) →
      passed ≡ markers_passed old.items few →
      (m - passed ≡ markers_in (items_in (set lists cpu new)))
      × IsSound (all_of (items_in (set lists cpu new)))
  taken_kept m passed count sound is_passed =
      let fits = taken_markers m passed count is_passed in
      let passes = markers_untaken few old.items in
      let after = ap (λ l. l.items) left in
      let less = ap markers after in
      relisted_in lists visited visited running queued m (m - passed) queued most cpu old new count
      sound inside read
      refl (omega arith) (omega arith) sound.counted
      (λ fours. subst AreFours (sym after) (fours_untaken few old.items fours))
