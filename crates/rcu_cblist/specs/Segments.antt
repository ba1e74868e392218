-- The list that four segments of one sequence form.
use Rattle.std.specs.Prelude.{List, ◌++◌, take, drop}
use Rattle.std.specs.VecDeque.{deque_capacity}
use Rattle.rcu_seq.specs.Numbers.{Number}
use Rattle.rcu_cblist.specs.SegList.{Item, Segmented, Until, Done}
use Rattle.rcu_cblist.specs.Entries.{marked, unmarked}
use Rattle.rcu_cblist.specs.Cuts.{between}
use Rattle.rcu_cblist.specs.declared.items.Entry.{Entry}
use Rattle.rcu_cblist.specs.declared.segments.Segments.{Segments}

module _ {X : Type 0} where
  -- four segments one behind another: the done items, those that wait for the numbers a and b, and
  -- those without a number
  abbrev pub joined : Number
      → Number → List (Entry X) → List (Entry X) → List (Entry X) → List (Entry X) → List (Item X)
  joined a b done wait ready next =
      marked Done done ++ (marked (Until a) wait ++ (marked (Until b) ready ++ unmarked next))

  -- the list of items that the segments form
  abbrev pub seen : Segments X → List (Item X)
  seen s =
      joined s.wait_number s.ready_number (take s.done.items s.items.items)
      (between s.done.items s.wait.items s.items.items)
      (between s.wait.items s.ready.items s.items.items) (drop s.ready.items s.items.items)

  -- the list, with its room
  abbrev pub listed : Segments X → Segmented X
  listed s = record { items = seen s; room = deque_capacity s.items }
