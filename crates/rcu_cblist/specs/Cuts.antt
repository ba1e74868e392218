-- The cuts of a sequence of items into four segments, and the invariant of the cuts.
use Rattle.std.specs.Prelude.{ℕ, ◌<◌, ◌≤◌, ◌≡◌, ◌+◌, ◌-◌, ◌==◌, false, List, length, take, drop}
use Rattle.std.specs.Prelude.{if◌then◌else◌}
use Rattle.rcu_seq.specs.Numbers.{Number}
use Rattle.rcu_cblist.specs.SegList.{begins_with_marker, callbacks}
use Rattle.rcu_cblist.specs.Entries.{unmarked}
use Rattle.rcu_cblist.specs.declared.items.Entry.{Entry}
use Rattle.rcu_cblist.specs.declared.tail.Tail.{Tail}

-- the place with this much more before it
abbrev pub risen : Tail → Tail → Tail
risen tail by = record { items = tail.items + by.items; calls = tail.calls + by.calls }

-- the place with this much less before it
abbrev pub fallen : Tail → Tail → Tail
fallen tail by = record { items = tail.items - by.items; calls = tail.calls - by.calls }

-- at least this much is before the place
pub record IsBefore (by tail : Tail) : Type 0 where
  pub items : by.items ≤ tail.items
  pub calls : by.calls ≤ tail.calls

-- the place once a marker was put behind this number of items: it is behind the marker if it was
-- behind all of them
abbrev pub past_marker : Tail → ℕ → Tail
past_marker tail end =
    record tail { items = if tail.items == end then tail.items + 1 else tail.items }

module _ {X : Type 0} where
  -- the items from one place to another
  abbrev pub between : ℕ → ℕ → List (Entry X) → List (Entry X)
  between i j xs = drop i (take j xs)

  -- four segments: the third has items only if the second has, and the second's number is the lower
  -- one; none begins with a marker
  pub record AreSegments (a b : Number) (done wait ready next : List (Entry X)) : Type 0 where
    pub filled : 0 < length ready → 0 < length wait
    pub ascending : 0 < length ready → a < b
    pub done_first : begins_with_marker (unmarked done) ≡ false
    pub wait_first : begins_with_marker (unmarked wait) ≡ false
    pub ready_first : begins_with_marker (unmarked ready) ≡ false
    pub next_first : begins_with_marker (unmarked next) ≡ false

  -- a place in a list, with as many callbacks before it as it says
  pub record IsTail (xs : List (Entry X)) (tail : Tail) : Type 0 where
    pub within : tail.items ≤ length xs
    pub calls : tail.calls ≡ length (callbacks (unmarked (take tail.items xs)))

  -- tail places that cut a list into segments
  pub record AreTails (xs : List (Entry X)) (done wait ready : Tail) (calls : ℕ) (a b : Number) :
      Type 0 where
    pub done_tail : IsTail xs done
    pub wait_tail : IsTail xs wait
    pub ready_tail : IsTail xs ready
    pub counted : calls ≡ length (callbacks (unmarked xs))
    pub wait_behind : done.items ≤ wait.items
    pub ready_behind : wait.items ≤ ready.items
    pub segments : AreSegments a b (take done.items xs) (between done.items wait.items xs)
        (between wait.items ready.items xs) (drop ready.items xs)
