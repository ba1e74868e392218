-- The meaning of a list's entries.
use Rattle.std.specs.Prelude.{ℕ, Bool, nat_lt, if◌then◌else◌, List, [], ◌∷◌, ◌++◌, length, map}
use Rattle.std.specs.Prelude.{take, drop}
use Rattle.rcu_cblist.specs.SegList.{Item, Mark, Of, Marker, Unmarked}
use Rattle.rcu_cblist.specs.declared.items.Entry.{Entry}
use Rattle.rcu_cblist.specs.declared.items.Entry.TheVariants as entry

module _ {X : Type 0} where
  -- the item of an entry, under this mark
  abbrev pub item_of : Mark → Entry X → Item X
  item_of mark (entry.Call call) = Of call mark
  item_of mark entry.Marker = Marker

  -- the items of entries, each callback under this mark
  abbrev pub marked : Mark → List (Entry X) → List (Item X)
  marked mark xs = map (item_of mark) xs

  -- the items of entries, without marks
  abbrev pub unmarked : List (Entry X) → List (Item X)
  unmarked xs = marked Unmarked xs

  -- the entries that go in front of a target, if this number of items moves in front of it and the
  -- others behind it, with a marker behind the last one if one is requested
  abbrev pub moved_in_front : List (Entry X) → ℕ → Bool → List (Entry X)
  moved_in_front xs ahead wanted =
      take ahead xs
      ++ (if wanted then (if nat_lt ahead (length xs) then [] else entry.Marker ∷ []) else [])

  -- and the entries that go behind it
  abbrev pub moved_behind : List (Entry X) → ℕ → Bool → List (Entry X)
  moved_behind xs ahead wanted =
      drop ahead xs
      ++ (if wanted then (if nat_lt ahead (length xs) then entry.Marker ∷ [] else []) else [])
