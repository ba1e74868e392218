use Rattle.std.proofs.Common.{◌≡◌, ◌≤◌, []}
use Rattle.std.specs.Prelude.{replicate}
use Rattle.std.specs.Vec.{vec_capacity, vec_len}
use Rattle.rcu_barrier.specs.Lists.{items_in}
use Rattle.rcu_barrier.proofs.moving.empty_lists.Given as goal

-- the lists so far are empty, with room for the others
abbrev pub invariant-loop : goal.invariant-loop
invariant-loop g l =
    (items_in l.lists.items ≡ replicate l.counter [])
    × ((vec_len l.lists ≡ l.counter) × (l.cpus ≤ vec_capacity l.lists))
