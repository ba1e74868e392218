use Rattle.std.proofs.Common.{◌≡◌, ◌<◌, ℕ, length, map}
use Rattle.rcu_graph.specs.Cycle.{how_many, is_unlinked, state_in, turned}
use Rattle.rcu_graph.specs.Nodes.{IsBy}
use Rattle.rcu_graph.specs.declared.node_state.NodeState.TheVariants.{Retired}
use Rattle.rcu_graph.proofs.cycle.Cycle.retire_all.Given as goal

abbrev pub invariant-loop : goal.invariant-loop
invariant-loop l =
    (map (turned is_unlinked (Retired l.number)) l.self
    ≡ map (turned is_unlinked (Retired l.number)) l.initial.self)
    × ((i : ℕ) → i < length l.self → IsBy l.number (state_in l.self i))

abbrev pub decreases-loop : goal.decreases-loop
decreases-loop l = how_many is_unlinked l.self
