-- All processors' lists, and the barrier over them: the state after each call, and its answer.
use Rattle.std.specs.Prelude.{ℕ, ◌≡◌, ◌≤◌, ◌+◌, ◌^◌, ◌==◌, ◌&&◌, Bool, true, false, nat_le, not}
use Rattle.std.specs.Prelude.{if◌then◌else◌, Option, List, [], ◌∷◌, ◌++◌, All, count_by, length}
use Rattle.std.specs.Prelude.{map, replicate, slice_index_or, slice_set, sum_by}
use Rattle.rcu_seq.specs.Fault.{first_fault}
use Rattle.rcu_seq.specs.Numbers.{Number}
use Rattle.rcu_seq.specs.declared.tag.Tag.{Tag}
use Rattle.rcu_seq.specs.declared.fault.Fault.{Fault}
use Rattle.rcu_seq.specs.declared.fault.Fault.TheVariants as fault
use Rattle.rcu_cblist.specs.declared.items.Queued.{Queued}
use Rattle.rcu_cblist.specs.SegList.{Item, Segmented, Of, Unmarked, after_entrain, after_migrate}
use Rattle.rcu_cblist.specs.SegList.{after_renumber, after_take, as_it_leaves, is_empty, markers}
use Rattle.rcu_cblist.specs.SegList.{take_refusal}
use Rattle.rcu_barrier.specs.Tending.{AreFours, after_tend}
use Rattle.rcu_barrier.specs.declared.lists.Visit.{Visit}
use Rattle.rcu_barrier.specs.declared.lists.Visit.TheVariants as visit
use Rattle.rcu_barrier.specs.declared.lists.BarrierState.{BarrierState}
use Rattle.rcu_barrier.specs.declared.lists.BarrierState.TheVariants as state

-- each processor's list, whether the barrier visited it, whether a barrier runs, how many callbacks
-- were queued, and how many may be
pub record AllLists (X : Type 0) : Type 0 where
  pub lists : List (List (Item X))
  pub visited : List Bool
  pub running : Bool
  pub queued : ℕ
  pub most : ℕ

-- the view of all lists in contracts:
pub record ListsWithRooms (X : Type 0) : Type 0 where
  pub all : AllLists X
  pub rooms : List ℕ

-- how many callbacks may be queued, unless an opening sets another limit
abbrev pub most_queued : ℕ
most_queued = 1000000

-- how many processors are unvisited
abbrev pub unvisited : List Bool → ℕ
unvisited flags = count_by not flags

-- only the room at this place may differ, and it is no smaller
pub record RoomsGrow (old : List ℕ) (place : ℕ) (new : List ℕ) : Type 0 where
  pub own : slice_index_or old place 0 ≤ slice_index_or new place 0
  pub others : new ≡ slice_set old place (slice_index_or new place 0)

module _ {X : Type 0} where
  -- the items of each list
  abbrev pub items_in : List (Segmented X) → List (List (Item X))
  items_in lists = map (λ list. list.items) lists

  -- the room of each list
  abbrev pub rooms_in : List (Segmented X) → List ℕ
  rooms_in lists = map (λ list. list.room) lists

  -- how many markers the lists have
  abbrev pub markers_in : List (List (Item X)) → ℕ
  markers_in lists = sum_by markers lists

  -- in each list, each number that a callback carries is a multiple of 4
  abbrev pub AllFours : List (List (Item X)) → Type 0
  AllFours lists = All AreFours lists

  -- the list at this place, empty if there is none
  abbrev pub list_at : List (List (Item X)) → ℕ → List (Item X)
  list_at lists place = slice_index_or lists place []

  -- if the lists have these items and these rooms, the list at this place has room for this number
  -- of further items
  abbrev pub has_room_at : List (List (Item X)) → List ℕ → ℕ → ℕ → Bool
  has_room_at lists rooms place more =
      nat_le (length (list_at lists place) + more) (slice_index_or rooms place 0)

  -- at first the lists are empty, no barrier runs, and no processor is unvisited
  abbrev pub at_first : ℕ → ℕ → AllLists X
  at_first cpus most = record {
    lists = replicate cpus [];
    visited = replicate cpus true;
    running = false;
    queued = 0;
    most = most;
  }

  -- the number of processors
  abbrev pub cpus_of : AllLists X → ℕ
  cpus_of all = length all.lists

  -- the processor's list
  abbrev pub list_of : AllLists X → ℕ → List (Item X)
  list_of all cpu = list_at all.lists cpu

  -- with the lists changed, and the room of each unchanged
  abbrev pub on_all : (AllLists X → AllLists X) → ListsWithRooms X → ListsWithRooms X
  on_all change lists = record lists { all = change lists.all }

  -- the processor's list has room for this number of further items
  abbrev pub has_room_in : ListsWithRooms X → ℕ → ℕ → Bool
  has_room_in lists cpu more = has_room_at lists.all.lists lists.rooms cpu more

  -- for how many items the processor's list has room
  abbrev pub room_of : ListsWithRooms X → ℕ → ℕ
  room_of lists cpu = slice_index_or lists.rooms cpu 0

  -- the other processors' lists have as much room
  abbrev pub KeepsOtherRooms : ListsWithRooms X → ℕ → ListsWithRooms X → Type 0
  KeepsOtherRooms old cpu new = new.rooms ≡ slice_set old.rooms cpu (room_of new cpu)

  -- only the processor's list may have another room, which is no smaller
  pub record Grows (old : ListsWithRooms X) (cpu : ℕ) (new : ListsWithRooms X) : Type 0 where
    pub own : room_of old cpu ≤ room_of new cpu
    pub others : KeepsOtherRooms old cpu new

  -- only the processor's list may have another room, which is no larger; an empty list has none
  pub record Shrinks (old : ListsWithRooms X) (cpu : ℕ) (new : ListsWithRooms X) : Type 0 where
    pub own : room_of new cpu ≤ room_of old cpu
    pub empty : list_of old.all cpu ≡ [] → room_of new cpu ≡ 0
    pub others : KeepsOtherRooms old cpu new

  -- the barrier visited the processor
  abbrev pub is_visited : AllLists X → ℕ → Bool
  is_visited all cpu = slice_index_or all.visited cpu false

  -- the processor has this list, and the others theirs
  abbrev pub with_list : AllLists X → ℕ → List (Item X) → AllLists X
  with_list all cpu xs = record all { lists = slice_set all.lists cpu xs }

  -- why a callback is not queued: the limit is reached, or memory was refused
  abbrev pub queue_fault : AllLists X → Fault
  queue_fault all = if all.queued == all.most then fault.CallbacksFull else fault.NoMemory

  -- why it may be refused: the limit is reached, or the list has no room for it
  abbrev pub queue_refusal : ListsWithRooms X → ℕ → Option Fault
  queue_refusal lists cpu =
      first_fault ((lists.all.queued == lists.all.most, fault.CallbacksFull)
      ∷ (not (has_room_in lists cpu 1), fault.NoMemory) ∷ [])

  -- a queued callback has this place among all queued ones: it is the next one, and within the
  -- limit, which is at most 2^62
  pub record IsNext (all : AllLists X) (place : ℕ) : Type 0 where
    pub count : place ≡ all.queued + 1
    pub few : place ≤ all.most
    pub bounded : place ≤ 2 ^ 62

  -- a callback, queued at this tag, is at the end of the processor's list, and is counted
  abbrev pub lists_after_queue : AllLists X → ℕ → Tag → X → AllLists X
  lists_after_queue all cpu at x =
      let call : Queued X = record { ord = all.queued + 1; at = at; value = x } in
      record (with_list all cpu (list_of all cpu ++ Of call Unmarked ∷ [])) {
        queued = all.queued + 1;
      }

  -- the processor's list is tended at this number
  abbrev pub lists_after_tend : AllLists X → ℕ → Number → AllLists X
  lists_after_tend all cpu number = with_list all cpu (after_tend (list_of all cpu) number)

  -- a renumbering: waiting callbacks of any list have no number, and the barrier goes on
  abbrev pub lists_after_renumber : AllLists X → AllLists X
  lists_after_renumber all = record all { lists = map after_renumber all.lists }

  -- the processor's list after a take of at most this number of callbacks
  abbrev pub lists_after_run : AllLists X → ℕ → ℕ → AllLists X
  lists_after_run all cpu most = with_list all cpu (after_take (list_of all cpu) most)

  -- why a run may be refused: there is a callback to hand out
  abbrev pub run_refusal : AllLists X → ℕ → ℕ → Option Fault
  run_refusal all cpu most = take_refusal (list_of all cpu) most

  -- a barrier runs that did not visit the processor
  abbrev pub owes_visit : AllLists X → ℕ → Bool
  owes_visit all cpu = all.running && not (is_visited all cpu)

  -- the processor's list as it leaves, with a marker behind it if a visit is owed
  abbrev pub leaving_list : AllLists X → ℕ → List (Item X)
  leaving_list all cpu = as_it_leaves (list_of all cpu) (owes_visit all cpu)

  -- why a list may not move: it has items, and processor 0's list has no room for them and for the
  -- marker, if a visit is owed
  abbrev pub migrate_refusal : ListsWithRooms X → ℕ → Option Fault
  migrate_refusal lists cpu =
      first_fault ((
        not (is_empty (list_of lists.all cpu))
            && not (has_room_in lists 0 (length (leaving_list lists.all cpu))),
        fault.NoMemory,
      ) ∷ [])

  -- the lists once the one at a place moved to the first, with a marker behind it if a visit is
  -- owed
  abbrev pub lists_after_move : List (List (Item X)) → ℕ → Bool → List (List (Item X))
  lists_after_move lists from owed =
      slice_set
      (slice_set lists 0 (after_migrate (list_at lists 0) (as_it_leaves (list_at lists from) owed)))
      from []

  -- the processor is visited if a visit is owed, and its list moved to processor 0
  abbrev pub lists_after_migrate : AllLists X → ℕ → AllLists X
  lists_after_migrate all cpu = record all {
    lists = lists_after_move all.lists cpu (owes_visit all cpu);
    visited = if owes_visit all cpu then slice_set all.visited cpu true else all.visited;
  }

  -- why a barrier does not begin: one runs
  abbrev pub barrier_begin_refusal : AllLists X → Option Fault
  barrier_begin_refusal all = first_fault ((all.running, fault.BarrierBusy) ∷ [])

  -- a barrier begins, with each processor unvisited
  abbrev pub lists_after_barrier_begin : AllLists X → AllLists X
  lists_after_barrier_begin all = record all {
    visited = replicate (cpus_of all) false;
    running = true;
  }

  -- a visit to a processor: if it is unvisited and its list is not empty, a marker goes behind its
  -- list
  abbrev pub lists_after_visit : AllLists X → ℕ → AllLists X
  lists_after_visit all cpu =
      if is_visited all cpu
      then all
      else record (with_list all cpu (after_entrain (list_of all cpu))) {
        visited = slice_set all.visited cpu true;
      }

  -- why a visit is refused: no barrier runs, or memory was refused
  abbrev pub visit_fault : AllLists X → Fault
  visit_fault all = if all.running then fault.NoMemory else fault.NoBarrier

  -- a visit puts a marker: the processor is unvisited, and its list has items
  abbrev pub is_marking : AllLists X → ℕ → Bool
  is_marking all cpu = not (is_visited all cpu) && not (is_empty (list_of all cpu))

  -- why it may be refused: no barrier runs, or the list has no room for the marker that it puts
  abbrev pub visit_refusal : ListsWithRooms X → ℕ → Option Fault
  visit_refusal lists cpu =
      first_fault ((not lists.all.running, fault.NoBarrier)
      ∷ (is_marking lists.all cpu && not (has_room_in lists cpu 1), fault.NoMemory) ∷ [])

  -- the answer of a visit
  abbrev pub visit_answer : AllLists X → ℕ → Visit
  visit_answer all cpu =
      if is_visited all cpu then visit.Already
      else (if is_empty (list_of all cpu) then visit.Empty else visit.Marked)

  -- why a barrier is not tested: none runs
  abbrev pub barrier_test_refusal : AllLists X → Option Fault
  barrier_test_refusal all = first_fault ((not all.running, fault.NoBarrier) ∷ [])

  -- the number of markers and unvisited processors that the barrier waits for
  abbrev pub barrier_left : AllLists X → ℕ
  barrier_left all = markers_in all.lists + unvisited all.visited

  -- a test ends the barrier if it waits for nothing
  abbrev pub lists_after_barrier_test : AllLists X → AllLists X
  lists_after_barrier_test all =
      if barrier_left all == 0 then record all { running = false } else all

  -- the answer of a test
  abbrev pub barrier_test_answer : AllLists X → BarrierState
  barrier_test_answer all =
      if barrier_left all == 0 then state.Done else state.Waits (barrier_left all)

  -- the invariant: 1 to 4,096 processors, each with a flag; a barrier waits for at most one marker
  -- or visit for each processor, and for nothing while none runs, so that no marker is left then;
  -- from 1 to 2^62 callbacks may be queued, and no more were; numbers are multiples of 4
  pub record IsSound (all : AllLists X) : Type 0 where
    pub some : 1 ≤ cpus_of all
    pub few : cpus_of all ≤ 4096
    pub sized : length all.visited ≡ cpus_of all
    pub within : barrier_left all ≤ cpus_of all
    pub idle : all.running ≡ false → barrier_left all ≡ 0
    pub counted : all.queued ≤ all.most
    pub most_some : 1 ≤ all.most
    pub most_few : all.most ≤ 2 ^ 62
    pub fours : AllFours all.lists
