-- One processor's list, in order: callbacks, each with its mark, and markers.
use Rattle.std.specs.Prelude.{ℕ, zero, suc, ◌+◌, ◌-◌, ◌==◌, ◌≤◌, ◌&&◌, nat_le, nat_lt, max, fold}
use Rattle.std.specs.Prelude.{if◌then◌else◌, Bool, true, false, not, Option, Some, None, List, []}
use Rattle.std.specs.Prelude.{◌∷◌, ◌++◌, length, map, take, drop, filter_map, count_by, option_map}
use Rattle.std.specs.Prelude.{slice_get, All}
use Rattle.std.specs.List.{list_any}
use Rattle.rcu_seq.specs.Fault.{first_fault}
use Rattle.rcu_seq.specs.Numbers.{Number}
use Rattle.rcu_seq.specs.declared.fault.Fault.{Fault}
use Rattle.rcu_seq.specs.declared.fault.Fault.TheVariants.{NoMemory}
use Rattle.rcu_cblist.specs.declared.items.Queued.{Queued}

-- the mark of a callback: it has no number yet, it waits for a grace-period number, or it is done
pub data Mark : Type 0 where
  Unmarked : Mark
  Until : Number → Mark
  Done : Mark

-- a callback with its mark, or a marker, which a barrier puts behind the callbacks that it waits
-- for
pub data Item (X : Type 0) : Type 0 where
  Of : Queued X → Mark → Item X
  Marker : Item X

-- the view of a list in contracts:
pub record Segmented (X : Type 0) : Type 0 where
  pub items : List (Item X)
  pub room : ℕ

-- the mark once the number is reached: a number at most that one becomes done
abbrev pub mark_advanced : Number → Mark → Mark
mark_advanced number (Until n) = if nat_le n number then Done else Until n
mark_advanced number Unmarked = Unmarked
mark_advanced number Done = Done

-- the mark after an unmarked callback is given a number
abbrev pub mark_given : Number → Mark → Mark
mark_given snap Unmarked = Until snap
mark_given snap (Until n) = Until n
mark_given snap Done = Done

-- the mark after a renumbering: a number means nothing in the next epoch
abbrev pub mark_renumbered : Mark → Mark
mark_renumbered (Until n) = Unmarked
mark_renumbered Unmarked = Unmarked
mark_renumbered Done = Done

-- one of the numbers is below the snapshot and differs from this one
abbrev pub has_other : Number → Number → List Number → Bool
has_other snap n numbers = list_any (λ k. nat_lt k snap && not (k == n)) numbers

-- two of the numbers are below the snapshot and differ
abbrev pub has_two : Number → List Number → Bool
has_two snap numbers = list_any (λ n. nat_lt n snap && has_other snap n numbers) numbers

-- the greatest of the numbers, none if there is none
abbrev pub greatest : List Number → Option Number
greatest [] = None
greatest (n ∷ numbers) = Some (fold max n numbers)

module _ {X : Type 0} where
  -- the callback of an item, none if it is a marker
  abbrev pub callback_of : Item X → Option (Queued X)
  callback_of (Of call mark) = Some call
  callback_of Marker = None

  -- the number that an item carries, none if it carries none
  abbrev pub number_carried : Item X → Option Number
  number_carried (Of call (Until n)) = Some n
  number_carried (Of call Unmarked) = None
  number_carried (Of call Done) = None
  number_carried Marker = None

  -- the item is a callback that is not done
  abbrev pub waits : Item X → Bool
  waits (Of call Done) = false
  waits (Of call Unmarked) = true
  waits (Of call (Until n)) = true
  waits Marker = false

  -- the item is a marker
  abbrev pub is_marker : Item X → Bool
  is_marker (Of call mark) = false
  is_marker Marker = true

  -- the callbacks, in order
  abbrev pub callbacks : List (Item X) → List (Queued X)
  callbacks xs = filter_map callback_of xs

  -- the numbers that callbacks carry, in order
  abbrev pub numbers : List (Item X) → List Number
  numbers xs = filter_map number_carried xs

  -- the number of markers
  abbrev pub markers : List (Item X) → ℕ
  markers xs = count_by is_marker xs

  -- the same item under another mark; a marker has none
  abbrev pub remarked : (Mark → Mark) → Item X → Item X
  remarked change (Of call mark) = Of call (change mark)
  remarked change Marker = Marker

  -- with the items changed, and as much room
  abbrev pub on_items : (List (Item X) → List (Item X)) → Segmented X → Segmented X
  on_items change list = record list { items = change list.items }

  -- the list has room for this number of further items
  abbrev pub has_room : Segmented X → ℕ → Bool
  has_room list more = nat_le (length list.items + more) list.room

  -- the list has no item
  abbrev pub is_empty : List (Item X) → Bool
  is_empty [] = true
  is_empty (x ∷ xs) = false

  -- the first item is a marker
  abbrev pub begins_with_marker : List (Item X) → Bool
  begins_with_marker [] = false
  begins_with_marker (x ∷ xs) = is_marker x

  -- the first item is a callback
  abbrev pub begins_with_callback : List (Item X) → Bool
  begins_with_callback xs = not (is_empty xs) && not (begins_with_marker xs)

  -- the list once a marker is put behind its callbacks; an empty one gets none
  abbrev pub after_entrain : List (Item X) → List (Item X)
  after_entrain xs = if is_empty xs then xs else xs ++ Marker ∷ []

  -- the list as it leaves, with a marker put behind it first if one is requested
  abbrev pub as_it_leaves : List (Item X) → Bool → List (Item X)
  as_it_leaves xs wanted = if wanted then after_entrain xs else xs

  -- the item without its mark
  abbrev pub without_mark : Item X → Item X
  without_mark x = remarked (λ _. Unmarked) x

  -- the list once the number is reached
  abbrev pub after_advance : List (Item X) → Number → List (Item X)
  after_advance xs number = map (remarked (mark_advanced number)) xs

  -- the list after a renumbering: waiting callbacks have no number, and done ones stay done
  abbrev pub after_renumber : List (Item X) → List (Item X)
  after_renumber xs = map (remarked mark_renumbered) xs

  -- no callback carries a number above the snapshot
  abbrev pub IsAtMost : Number → List (Item X) → Type 0
  IsAtMost snap xs = All (λ n. n ≤ snap) (numbers xs)

  -- the list once each unmarked callback is given the snapshot. Nothing changes if callbacks carry
  -- two different numbers below it
  abbrev pub after_accelerate : List (Item X) → Number → List (Item X)
  after_accelerate xs snap =
      if has_two snap (numbers xs) then xs else map (remarked (mark_given snap)) xs

  -- the done part: the longest front with no callback that waits
  abbrev pub front : List (Item X) → List (Item X)
  front [] = []
  front (x ∷ xs) = if waits x then [] else x ∷ front xs

  -- the items behind it, from the first callback that waits on
  abbrev pub behind : List (Item X) → List (Item X)
  behind [] = []
  behind (x ∷ xs) = if waits x then x ∷ xs else behind xs

  -- the callbacks that a take hands out: the first of the done part, at most this number
  abbrev pub take_answer : List (Item X) → ℕ → List (Queued X)
  take_answer xs most = take most (callbacks (front xs))

  -- the list from one of its callbacks on, which are counted from 0
  abbrev pub from_callback : ℕ → List (Item X) → List (Item X)
  from_callback n [] = []
  from_callback n (Marker ∷ xs) = from_callback n xs
  from_callback zero (Of call mark ∷ xs) = Of call mark ∷ xs
  from_callback (suc n) (Of call mark ∷ xs) = from_callback n xs

  -- the list after a take: it begins at the first callback that the take does not hand out
  abbrev pub after_take : List (Item X) → ℕ → List (Item X)
  after_take xs most = from_callback (length (take_answer xs most)) xs

  -- how many markers a take passes
  abbrev pub markers_passed : List (Item X) → ℕ → ℕ
  markers_passed xs most = markers xs - markers (after_take xs most)

  -- the callback that a take of one hands out, and how many markers it passes; none if no callback
  -- is done
  abbrev pub pop_answer : List (Item X) → Option (Queued X × ℕ)
  pop_answer xs = option_map (λ call. (call, markers_passed xs 1)) (slice_get (take_answer xs 1) 0)

  -- a target that had ys, after xs moved there: the done part in front of ys, and the rest behind
  -- it without its marks
  abbrev pub after_migrate : List (Item X) → List (Item X) → List (Item X)
  after_migrate ys xs = (front xs ++ ys) ++ map without_mark (behind xs)

  -- the item is a marker, or a callback with this number
  abbrev pub is_with : Number → Item X → Bool
  is_with n (Of call (Until k)) = k == n
  is_with n (Of call Unmarked) = false
  is_with n (Of call Done) = false
  is_with n Marker = true

  -- the longest front of markers and of callbacks with this number
  abbrev pub front_with : Number → List (Item X) → List (Item X)
  front_with n [] = []
  front_with n (x ∷ xs) = if is_with n x then x ∷ front_with n xs else []

  -- the longest front of markers and of callbacks with one number, that of its first item; empty if
  -- that has none
  abbrev pub numbered : List (Item X) → List (Item X)
  numbered [] = []
  numbered (Of call (Until n) ∷ xs) = Of call (Until n) ∷ front_with n xs
  numbered (Of call Unmarked ∷ xs) = []
  numbered (Of call Done ∷ xs) = []
  numbered (Marker ∷ xs) = []

  -- the items behind it
  abbrev pub past_numbered : List (Item X) → List (Item X)
  past_numbered xs = drop (length (numbered xs)) xs

  -- how many items each segment has. The list is cut where its marks change, and a marker belongs
  -- to the item before it: the done part, the callbacks that wait for the first number, those that
  -- wait for the next one, and the rest
  abbrev pub segments : List (Item X) → List ℕ
  segments xs =
      length (front xs) ∷ length (numbered (behind xs))
      ∷ length (numbered (past_numbered (behind xs)))
      ∷ length (past_numbered (past_numbered (behind xs))) ∷ []

  -- why a callback may be refused: the list has no room for it
  abbrev pub queue_refusal : Segmented X → Option Fault
  queue_refusal list = first_fault ((not (has_room list 1), NoMemory) ∷ [])

  -- why a marker may be refused: the list has a callback, and no room
  abbrev pub entrain_refusal : Segmented X → Option Fault
  entrain_refusal list =
      first_fault ((not (is_empty list.items) && not (has_room list 1), NoMemory) ∷ [])

  -- why a take may be refused: there is a callback to hand out
  abbrev pub take_refusal : List (Item X) → ℕ → Option Fault
  take_refusal xs most = first_fault ((nat_lt 0 (length (take_answer xs most)), NoMemory) ∷ [])

  -- why a list may not move: it has items, and the target has no room for them and for the marker,
  -- if one is requested
  abbrev pub move_refusal : Segmented X → Bool → Segmented X → Option Fault
  move_refusal list marked target =
      first_fault ((
        not (is_empty list.items)
            && not (has_room target (length (as_it_leaves list.items marked))),
        NoMemory,
      ) ∷ [])
