use Rattle.std.proofs.Common.{◌≡◌, map}
use Rattle.rcu_graph.specs.Cycle.{how_many, is_over, turned}
use Rattle.rcu_graph.specs.declared.node_state.NodeState.TheVariants.{Free}
use Rattle.rcu_graph.proofs.cycle.Cycle.free_all.Given as goal

abbrev pub invariant-loop : goal.invariant-loop
invariant-loop l =
    map (turned (is_over l.number) Free) l.self
    ≡ map (turned (is_over l.number) Free) l.initial.self

abbrev pub decreases-loop : goal.decreases-loop
decreases-loop l = how_many (is_over l.number) l.self
