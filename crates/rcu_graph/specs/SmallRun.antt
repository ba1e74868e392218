-- A search of two hops, and a writer that publishes a node between them.
use Rattle.std.specs.Prelude.{ℕ, zero, suc, ◌<◌, List, [], ◌∷◌, ◌++◌, None, Some, replicate}
use Rattle.std.specs.Prelude.{slice_index}
use Rattle.rcu_graph.specs.Beside.{Moment}
use Rattle.rcu_graph.specs.Planned.{of_plan, plan_of}
use Rattle.rcu_graph.specs.declared.known.Hop.{Hop}
use Rattle.rcu_graph.specs.declared.known.Known.{Known}
use Rattle.rcu_graph.specs.declared.known.Known.TheVariants.{Reader, Writer}
use Rattle.rcu_graph.specs.declared.known.Node.{Node}
use Rattle.rcu_graph.specs.declared.node_state.NodeState.{NodeState}
use Rattle.rcu_graph.specs.declared.node_state.NodeState.TheVariants.{Free, Live}
use Rattle.rcu_graph.specs.declared.plan.Plan.{Plan}

-- a node of one link, which has this word, and of one word, which is its key
abbrev pub small_node : NodeState → ℕ → ℕ → Node
small_node state next key = record { state = state; links = next ∷ []; words = key ∷ [] }

-- the root 0 leads to the node 1; then that leads to the node 2
abbrev pub small_nodes : ℕ → List Node
small_nodes zero = small_node Live 2 0 ∷ small_node Live 0 5 ∷ small_node Free 0 7 ∷ []
small_nodes (suc t) = small_node Live 2 0 ∷ small_node Live 3 5 ∷ small_node Live 0 7 ∷ []

-- from the root to the node 1, and from there to the node 2
abbrev pub first_hop : Hop
first_hop = record { from = 0; link = 0; to = 2; words = 5 ∷ [] }

abbrev pub second_hop : Hop
second_hop = record { from = 1; link = 0; to = 3; words = 7 ∷ [] }

-- a graph of one root and two more nodes, whose first words go up along each link
abbrev pub small_plan : Plan
small_plan = plan_of 1 1 1 3 0

abbrev pub small_fits : Plan → List ℕ → Type 0
small_fits plan words = Unit {0}

abbrev pub small_joins : Plan → ℕ → List ℕ → List ℕ → Type 0
small_joins plan link from to = slice_index from 0 < slice_index to 0

abbrev pub small_first : Plan → ℕ → List ℕ
small_first plan root = 0 ∷ []

-- the words of these nodes: behind 16 others, of each node its link and its key
abbrev pub small_words : ℕ → List ℕ
small_words zero = replicate 16 0 ++ (2 ∷ 0 ∷ 0 ∷ 5 ∷ 0 ∷ 7 ∷ [])
small_words (suc t) = replicate 16 0 ++ (2 ∷ 0 ∷ 3 ∷ 5 ∷ 0 ∷ 7 ∷ [])

-- the writer's knowledge then
abbrev pub small_writer : ℕ → Known
small_writer zero = Writer 0 (small_nodes 0) []
small_writer (suc t) = Writer 0 (small_nodes 1) (small_nodes 1 ∷ [])

-- a moment at which the writer's seat is the first one, and processor 0 has the second, with a
-- section that began at the number 0 and made these hops
abbrev pub small_moment : ℕ → List Hop → Moment
small_moment t hops = record {
  words = small_words t;
  seats = (None, None, of_plan small_plan (small_writer t))
      ∷ (Some 0, Some 0, of_plan small_plan (Reader hops))
      ∷ [];
  writer = small_writer t;
  section = Reader hops;
}

-- the section makes its first hop, then the writer publishes the node 2, then the section goes on
abbrev pub small_moments : ℕ → Moment
small_moments zero = small_moment 0 []
small_moments (suc zero) = small_moment 0 (first_hop ∷ [])
small_moments (suc (suc zero)) = small_moment 1 (first_hop ∷ [])
small_moments (suc (suc (suc t))) = small_moment 1 (second_hop ∷ first_hop ∷ [])
