-- The entries after a walk.
use Rattle.std.specs.Prelude.{ℕ, ◌≡◌, ◌≤◌, ◌+◌, List, [], length, drop}
use Rattle.std.specs.VecDeque.{deque_capacity}
use Rattle.std.specs.declared.collections.VecDeque.{VecDeque}
use Rattle.rcu_cblist.specs.SegList.{from_callback, markers}
use Rattle.rcu_cblist.specs.Entries.{unmarked}
use Rattle.rcu_cblist.specs.declared.items.Entry.{Entry}

module _ {X Z : Type 0} where
  -- the items are left from one of their callbacks on, counted from 0: the items before it, with
  -- this number of markers, are gone, and the room is unchanged
  pub record IsLeft (old : VecDeque (Entry X) Z) (n passed : ℕ) (new : VecDeque (Entry X) Z) :
      Type 0 where
    pub items : unmarked new.items ≡ from_callback n (unmarked old.items)
    pub gone : new.items ≡ drop (n + passed) old.items
    pub left : n + passed + length new.items ≡ length old.items
    pub markers : passed + markers (unmarked new.items) ≡ markers (unmarked old.items)
    pub capacity : deque_capacity new ≡ deque_capacity old

  -- no item is left, and the room is unchanged
  pub record IsEmptied (old new : VecDeque X Z) : Type 0 where
    pub items : new.items ≡ []
    pub capacity : deque_capacity new ≡ deque_capacity old

  -- these are the items now, and the room did not shrink
  pub record HasNow (old : VecDeque X Z) (xs : List X) (new : VecDeque X Z) : Type 0 where
    pub items : new.items ≡ xs
    pub capacity : deque_capacity old ≤ deque_capacity new
