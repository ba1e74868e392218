use Rattle.std.proofs.Common.{◌≡◌, ◌<◌, ◌+◌, ◌^◌, drop, length}
use Rattle.std.specs.VecDeque.{deque_capacity}
use Rattle.rcu_cblist.specs.SegList.{markers, from_callback}
use Rattle.rcu_cblist.specs.Entries.{unmarked}
use Rattle.rcu_cblist.proofs.pop.drop_markers.Given as goal

-- the dropped items and the remaining ones are the items at first
abbrev pub invariant-loop-items : goal.invariant-loop-items
invariant-loop-items g l =
    (l.markers + length l.items.items < 2 ^ 63)
    × (l.markers + length l.items.items ≡ length l.initial.items.items)
    × (l.items.items ≡ drop l.markers l.initial.items.items)
    × (from_callback 0 (unmarked l.initial.items.items) ≡ from_callback 0 (unmarked l.items.items))
    × (l.markers + markers (unmarked l.items.items) ≡ markers (unmarked l.initial.items.items))
    × (deque_capacity l.items ≡ deque_capacity l.initial.items)

-- each turn drops an item
abbrev pub decreases-loop-items : goal.decreases-loop-items
decreases-loop-items g l = length l.items.items
