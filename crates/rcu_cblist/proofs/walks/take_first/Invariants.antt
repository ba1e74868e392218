use Rattle.std.proofs.Common.{◌≡◌, ◌≤◌, ◌<◌, ◌+◌, ◌-◌, ◌^◌, ◌++◌, take, drop, length, vec_len}
use Rattle.std.specs.Vec.{vec_capacity}
use Rattle.std.specs.VecDeque.{deque_capacity}
use Rattle.rcu_cblist.specs.SegList.{callbacks, markers, from_callback}
use Rattle.rcu_cblist.specs.Entries.{unmarked}
use Rattle.rcu_cblist.proofs.walks.take_first.Given as goal

-- the callbacks taken so far and those still to take are the callbacks to take
abbrev pub invariant-loop-items : goal.invariant-loop-items
invariant-loop-items g l =
    (vec_len l.calls + l.left ≤ vec_capacity l.calls)
    × (l.markers + length l.items.items < 2 ^ 63)
    × (l.left ≤ length (callbacks (unmarked l.items.items)))
    × (l.most + l.markers + length l.items.items ≡ length l.initial.items.items + l.left)
    × (l.items.items ≡ drop (l.most + l.markers - l.left) l.initial.items.items)
    × (l.initial.calls.items ++ take l.most (callbacks (unmarked l.initial.items.items))
    ≡ l.calls.items ++ take l.left (callbacks (unmarked l.items.items)))
    × (from_callback l.most (unmarked l.initial.items.items)
    ≡ from_callback l.left (unmarked l.items.items))
    × (l.markers + markers (unmarked l.items.items) ≡ markers (unmarked l.initial.items.items))
    × (deque_capacity l.items ≡ deque_capacity l.initial.items)

-- each turn takes an item
abbrev pub decreases-loop-items : goal.decreases-loop-items
decreases-loop-items g l = length l.items.items
