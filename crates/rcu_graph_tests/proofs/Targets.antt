-- The consequences of a writer's tests of a node for a link that leads to it.
use Rattle.std.proofs.Common.{◌≡◌, ◌<◌, ℕ, suc, true, List, length, arith, subst}
use Rattle.std.specs.Prelude.{slice_index}
use mathlib.Core.Option.{some}
use lib.ListN.{get_elem?}
use Rattle.rcu_graph.specs.Nodes.{IsTarget, is_live, node_at, state_at}
use Rattle.rcu_graph.specs.declared.known.Node.{Node}
use Rattle.rcu_graph.specs.declared.node_state.NodeState.TheVariants.{Live}
use Rattle.rcu_graph.proofs.Counting.{test_live}
use Rattle.rcu_graph.proofs.Tending.{here_at}

pub greater_target : (nodes : List Node) (i n x : ℕ)
    → x ≡ suc n
    → n < length nodes
    → is_live (state_at nodes n) ≡ true
    → slice_index (node_at nodes i).words 0 < slice_index (node_at nodes n).words 0
    → IsTarget (λ from to. slice_index from 0 < slice_index to 0) (node_at nodes i).words nodes x
greater_target nodes i n x here low live up j is =
    let same : n ≡ j = omega (arith, here, is) in
    subst (λ (k : ℕ).
    (v : Node)
    × (get_elem? nodes k ≡ some v)
    × (v.state ≡ Live)
    × (slice_index (node_at nodes i).words 0 < slice_index v.words 0))
    same (node_at nodes n, here_at nodes n low, test_live (state_at nodes n) live, up)
