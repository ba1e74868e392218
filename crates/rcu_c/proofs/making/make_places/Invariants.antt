use Rattle.std.proofs.Common.{◌≡◌, ◌-◌, map}
use Rattle.std.specs.List.{range_with_len}
use Rattle.rcu_live.specs.CpuSeat.{at_first}
use Rattle.rcu_live.specs.Watcher.{watcher_at_first}
use Rattle.rcu_live.specs.Words.{base_of}
use Rattle.rcu_graph.specs.Planned.{of_plan}
use Rattle.rcu_graph.specs.declared.known.Known.TheVariants.{Idle}
use Rattle.rcu_c.specs.Places.{place_at_first}
use Rattle.rcu_c.proofs.making.make_places.Given as goal

-- made are the places of the processors so far, and the parts of the others are left
abbrev pub invariant-loop : goal.invariant-loop
invariant-loop l =
    let s = l.shared in
    let cpus = s.words.cpus in
    let known = of_plan s.words.plan Idle in
    (l.made.items ≡ map (place_at_first s.words) (range_with_len 0 l.counter))
    × (l.seats.rest.items
    ≡ map (at_first s.words.table (base_of cpus) known)
    (range_with_len l.counter (cpus - l.counter)))
    × (l.watchers.rest.items
    ≡ map (λ _. watcher_at_first s.words.table (base_of cpus) known)
    (range_with_len l.counter (cpus - l.counter)))
