-- Lists and their items: the effect of a change of one list with room on the list of the items.
use Rattle.std.proofs.Common.{◌≡◌, ℕ, zero, suc, ◌+◌, ◌-◌, ◌<◌, ◌≤◌, Bool, List, [], ◌∷◌, ◌++◌}
use Rattle.std.proofs.Common.{length, set, get_or, take, drop, ap, sym, subst, ◌∙◌, arith}
use Rattle.std.proofs.lemmas.List.{get_or-map, get_or-set_same, get_or_default, length-map, map-set}
use Rattle.std.proofs.lemmas.List.{set-get_or}
use Rattle.std.proofs.Math.Seq.{map-set_same}
use Rattle.rcu_cblist.specs.SegList.{Item, Segmented, after_migrate, as_it_leaves, markers}
use Rattle.rcu_barrier.specs.Tending.{AreFours}
use Rattle.rcu_barrier.specs.Lists.{AllLists, IsSound, ListsWithRooms, RoomsGrow, items_in, list_at}
use Rattle.rcu_barrier.specs.Lists.{lists_after_move, markers_in, rooms_in, unvisited}
use Rattle.rcu_barrier.proofs.Kept.{relisted}

module _ {X : Type 0} where
  -- the items of a list
  abbrev items_of : Segmented X → List (Item X)
  items_of list = list.items

  -- lists with their rooms
  abbrev pub with_rooms : AllLists X → List ℕ → ListsWithRooms X
  with_rooms all rooms = record { all = all; rooms = rooms }

  -- what contracts see is the same if the lists and the rooms are
  pub both_same : (all now : AllLists X) (rooms rooms_now : List ℕ) → all ≡ now → rooms ≡ rooms_now
      → with_rooms all rooms ≡ with_rooms now rooms_now
  both_same all now rooms rooms_now lists same =
      ap (λ l. with_rooms l rooms) lists ∙ ap (λ r. with_rooms now r) same

  -- there are as many lists of items
  pub long_in : (lists : List (Segmented X)) → length (items_in lists) ≡ length lists
  long_in lists = length-map lists items_of

  -- a list that was read has the items of its place
  pub read_items : (lists : List (Segmented X)) (cpu : ℕ) (old : Segmented X)
      → cpu < length (items_in lists) → old ≡ get_or lists cpu old
      → old.items ≡ list_at (items_in lists) cpu
  read_items lists cpu old inside read =
      let long = long_in lists in
      ap items_of read ∙ sym (get_or-map items_of lists cpu old [] (omega arith))

  -- one list is another
  pub set_items : (lists : List (Segmented X)) (cpu : ℕ) (new : Segmented X) →
      items_in (set lists cpu new) ≡ set (items_in lists) cpu new.items
  set_items lists cpu new = map-set items_of lists cpu new

  -- one list is another with the same items
  pub same_items : (lists : List (Segmented X)) (cpu : ℕ) (old new : Segmented X)
      → old ≡ get_or lists cpu old → new.items ≡ old.items
      → items_in (set lists cpu new) ≡ items_in lists
  same_items lists cpu old new read same =
      map-set_same items_of lists cpu new old (same ∙ ap items_of read)

  -- the room of a list
  abbrev room_in : Segmented X → ℕ
  room_in list = list.room

  -- one list is another with the same room
  pub same_rooms : (lists : List (Segmented X)) (cpu : ℕ) (old new : Segmented X)
      → old ≡ get_or lists cpu old → new.room ≡ old.room
      → rooms_in (set lists cpu new) ≡ rooms_in lists
  same_rooms lists cpu old new read same =
      map-set_same room_in lists cpu new old (same ∙ ap room_in read)

  -- the room of the list that was changed
  pub room_now : (lists : List (Segmented X)) (cpu : ℕ) (new : Segmented X)
      → cpu < length (items_in lists) → get_or (rooms_in (set lists cpu new)) cpu 0 ≡ new.room
  room_now lists cpu new inside =
      let long = long_in lists in
      let sized = length-map lists room_in in
      ap (λ rooms. get_or rooms cpu 0) (map-set room_in lists cpu new)
      ∙ get_or-set_same (rooms_in lists) cpu new.room 0 (omega arith)

  -- the room that it had
  pub room_was : (lists : List (Segmented X)) (cpu : ℕ) (old : Segmented X)
      → cpu < length (items_in lists) → old ≡ get_or lists cpu old
      → get_or (rooms_in lists) cpu 0 ≡ old.room
  room_was lists cpu old inside read =
      let long = long_in lists in
      get_or-map room_in lists cpu old 0 (omega arith) ∙ sym (ap room_in read)

  -- a list that changed has no less room
  pub rooms_rise : (lists : List (Segmented X)) (cpu : ℕ) (old new : Segmented X)
      → cpu < length (items_in lists) → old ≡ get_or lists cpu old → old.room ≤ new.room
      → get_or (rooms_in lists) cpu 0 ≤ get_or (rooms_in (set lists cpu new)) cpu 0
  rooms_rise lists cpu old new inside read more =
      let was = room_was lists cpu old inside read in
      let now = room_now lists cpu new inside in
      omega (arith, was, now, more)

  -- it has no more
  pub rooms_fall : (lists : List (Segmented X)) (cpu : ℕ) (old new : Segmented X)
      → cpu < length (items_in lists) → old ≡ get_or lists cpu old → new.room ≤ old.room
      → get_or (rooms_in (set lists cpu new)) cpu 0 ≤ get_or (rooms_in lists) cpu 0
  rooms_fall lists cpu old new inside read less =
      let was = room_was lists cpu old inside read in
      let now = room_now lists cpu new inside in
      omega (arith, was, now, less)

  -- if one list is another, only its room may differ
  pub other_rooms : (lists : List (Segmented X)) (cpu : ℕ) (new : Segmented X)
      → cpu < length (items_in lists)
      → rooms_in (set lists cpu new)
      ≡ set (rooms_in lists) cpu (get_or (rooms_in (set lists cpu new)) cpu 0)
  other_rooms lists cpu new inside =
      map-set room_in lists cpu new
      ∙ ap (λ room. set (rooms_in lists) cpu room) (sym (room_now lists cpu new inside))

  -- one list is changed
  pub changed_items : (change : List (Item X) → List (Item X)) (lists : List (Segmented X))
      (cpu : ℕ) (old new : Segmented X)
      → cpu < length (items_in lists)
      → old ≡ get_or lists cpu old
      → new.items ≡ change old.items
      → items_in (set lists cpu new)
      ≡ set (items_in lists) cpu (change (list_at (items_in lists) cpu))
  changed_items change lists cpu old new inside read after =
      set_items lists cpu new
      ∙ ap (λ l. set (items_in lists) cpu l)
      (after ∙ ap change (read_items lists cpu old inside read))

  -- the first list, read off the front one
  first_read : (lists front : List (Segmented X)) (d : Segmented X)
      → front ≡ take 1 lists → 0 < length lists
      → (get_or front 0 d).items ≡ list_at (items_in lists) 0
  first_read [] front d is some = absurd (omega arith)
  first_read (x ∷ xs) front d is some = ap (λ l. (get_or l 0 d).items) is

  -- another list, read off the lists behind the first
  other_read : (lists back : List (Segmented X)) (from : ℕ) (d : Segmented X)
      → back ≡ drop 1 lists → 0 < from → from < length lists
      → (get_or back (from - 1) d).items ≡ list_at (items_in lists) from
  other_read [] back from d is above inside = absurd (omega arith)
  other_read (x ∷ xs) back zero d is above inside = absurd (omega arith)
  other_read (x ∷ xs) back (suc n) d is above inside =
      let same : suc n - 1 ≡ n = omega arith in
      rw same
      (ap (λ l. (get_or l n d).items) is ∙ sym (get_or-map items_of xs n d [] (omega arith)))

  -- the first list and another one are others
  two_items : (lists front back : List (Segmented X)) (from : ℕ) (first other : Segmented X)
      → front ≡ take 1 lists
      → back ≡ drop 1 lists
      → 0 < from
      → from < length lists
      → items_in (set front 0 first ++ set back (from - 1) other)
      ≡ set (set (items_in lists) 0 first.items) from other.items
  two_items [] front back from first other is_front is_back above inside = absurd (omega arith)
  two_items (x ∷ xs) front back zero first other is_front is_back above inside =
      absurd (omega arith)
  two_items (x ∷ xs) front back (suc n) first other is_front is_back above inside =
      let same : suc n - 1 ≡ n = omega arith in
      rw same (rw (is_front, is_back) (ap (λ l. first.items ∷ l) (set_items xs n other)))

  -- they are others with the same items
  pub two_same : (lists front back : List (Segmented X)) (from : ℕ) (first other d e : Segmented X)
      → front ≡ take 1 lists
      → back ≡ drop 1 lists
      → 0 < from
      → from < length lists
      → first.items ≡ (get_or front 0 d).items
      → other.items ≡ (get_or back (from - 1) e).items
      → items_in (set front 0 first ++ set back (from - 1) other) ≡ items_in lists
  two_same lists front back from first other d e is_front is_back above inside same_first
      same_other =
      let firsts = same_first ∙ first_read lists front d is_front (omega arith) in
      let others = same_other ∙ other_read lists back from e is_back above inside in
      two_items lists front back from first other is_front is_back above inside ∙
      (ap (λ l. set (set (items_in lists) 0 l) from other.items) firsts ∙
      (ap (λ l. set l from other.items) (set-get_or (items_in lists) 0 []) ∙
      (ap (λ l. set (items_in lists) from l) others ∙ set-get_or (items_in lists) from [])))

  -- one moved to the first
  pub two_moved : (lists front back : List (Segmented X)) (from : ℕ) (owed : Bool)
      (first other d e : Segmented X)
      → front ≡ take 1 lists
      → back ≡ drop 1 lists
      → 0 < from
      → from < length lists
      → first.items
      ≡ after_migrate (get_or front 0 d).items (as_it_leaves (get_or back (from - 1) e).items owed)
      → other.items ≡ []
      → items_in (set front 0 first ++ set back (from - 1) other)
      ≡ lists_after_move (items_in lists) from owed
  two_moved lists front back from owed first other d e is_front is_back above inside moved left =
      let firsts = first_read lists front d is_front (omega arith) in
      let others = other_read lists back from e is_back above inside in
      let now =
      moved
      ∙ (ap (λ l. after_migrate l (as_it_leaves (get_or back (from - 1) e).items owed)) firsts
      ∙ ap (λ l. after_migrate (list_at (items_in lists) 0) (as_it_leaves l owed)) others) in
      two_items lists front back from first other is_front is_back above inside ∙
      (ap (λ l. set (set (items_in lists) 0 l) from other.items) now ∙
      ap (λ l. set (set (items_in lists) 0 (after_migrate (list_at (items_in lists) 0)
      (as_it_leaves (list_at (items_in lists) from) owed))) from l) left)

  -- only the first list's room may be another one
  pub two_rooms : (lists front back : List (Segmented X)) (from : ℕ) (first other e : Segmented X)
      → front ≡ take 1 lists
      → back ≡ drop 1 lists
      → 0 < from
      → from < length lists
      → other.room ≡ (get_or back (from - 1) e).room
      → rooms_in (set front 0 first ++ set back (from - 1) other)
      ≡ set (rooms_in lists) 0
      (get_or (rooms_in (set front 0 first ++ set back (from - 1) other)) 0 0)
  two_rooms [] front back from first other e is_front is_back above inside same =
      absurd (omega arith)
  two_rooms (x ∷ xs) front back zero first other e is_front is_back above inside same =
      absurd (omega arith)
  two_rooms (x ∷ xs) front back (suc n) first other e is_front is_back above inside same =
      let less : suc n - 1 ≡ n = omega arith in
      let kept =
      same ∙ (ap (λ k. (get_or back k e).room) less ∙ ap (λ l. (get_or l n e).room) is_back) in
      rw less
      (rw (is_front, is_back)
      (ap (λ rooms. first.room ∷ rooms) (map-set_same room_in xs n other e kept)))

  -- and the first one's is no smaller
  pub two_grow : (lists front back : List (Segmented X)) (from : ℕ)
      (first other d e : Segmented X)
      → front ≡ take 1 lists
      → back ≡ drop 1 lists
      → 0 < from
      → from < length lists
      → (get_or front 0 d).room ≤ first.room
      → other.room ≡ (get_or back (from - 1) e).room
      → RoomsGrow (rooms_in lists) 0 (rooms_in (set front 0 first ++ set back (from - 1) other))
  two_grow [] front back from first other d e is_front is_back above inside rises same =
      absurd (omega arith)
  two_grow (x ∷ xs) front back from first other d e is_front is_back above inside rises same =
      let before : (get_or front 0 d).room ≡ x.room =
      ap (λ l. (get_or l 0 d).room) is_front in
      let after : get_or (rooms_in (set front 0 first ++ set back (from - 1) other)) 0 0
      ≡ first.room =
      ap (λ l. get_or (rooms_in (set l 0 first ++ set back (from - 1) other)) 0 0) is_front in
      let own : x.room ≤ get_or (rooms_in (set front 0 first ++ set back (from - 1) other)) 0 0 =
      omega arith in
      record {
        own = own;
        others = two_rooms (x ∷ xs) front back from first other e is_front is_back above inside
            same;
      }

  -- there are as many lists if there are as many rooms
  pub long_rooms : (lists new : List (Segmented X))
      → length (rooms_in new) ≡ length (rooms_in lists) → length new ≡ length lists
  long_rooms lists new same = sym (length-map new room_in) ∙ (same ∙ length-map lists room_in)

  -- the invariant is kept if one list changes, and perhaps visits and the count of queued callbacks
  pub relisted_in : (lists : List (Segmented X)) (visited flags : List Bool) (running : Bool)
      (before m n queued most cpu : ℕ)
      (old new : Segmented X) → m ≡ markers_in (items_in lists) →
      IsSound (record {
        lists = items_in lists;
        visited = visited;
        running = running;
        queued = before;
        most = most;
      }) →
      cpu < length (items_in lists) → old ≡ get_or lists cpu old →
      length flags ≡ length visited → n + markers old.items ≡ m + markers new.items →
      n + unvisited flags ≤ m + unvisited visited →
      queued ≤ most → (AreFours old.items → AreFours new.items) →
      (n ≡ markers_in (items_in (set lists cpu new)))
      × IsSound (record {
        lists = items_in (set lists cpu new);
        visited = flags;
        running = running;
        queued = queued;
        most = most;
      })
  relisted_in lists visited flags running before m n queued most cpu old new count kept inside
      read sized now fewer few keeps =
      let is = read_items lists cpu old inside read in
      let default = get_or_default (items_in lists) cpu old.items [] inside in
      subst (λ l.
      (n ≡ markers_in l)
      × IsSound
      (record { lists = l; visited = flags; running = running; queued = queued; most = most }))
      (sym (set_items lists cpu new))
      (relisted (record {
        lists = items_in lists;
        visited = visited;
        running = running;
        queued = before;
        most = most;
      }) m n queued cpu
      old.items new.items flags count kept inside (is ∙ sym default) sized now fewer few keeps)
