use Rattle.std.proofs.Common.{◌≡◌, ◌-◌, ◌<◌, ℕ, get_or, length}
use Rattle.rcu_graph.proofs.cycle.falling.Given as goal

abbrev pub invariant-loop-number : goal.invariant-loop-number
invariant-loop-number l =
    (length l.numbers.items ≡ l.count)
    × ((i : ℕ) → i < l.number → get_or l.numbers.items i 0 ≡ l.count - 1 - i)
