-- A writer's copy of the nodes at run time.
use Rattle.std.specs.Prelude.{◌≡◌, ◌<◌, ℕ, List, [], ◌∷◌, ◌++◌, length, take, drop}
use Rattle.rcu_seq.specs.Numbers.{Number}
use Rattle.rcu_graph.specs.Nodes.{IsBy, node_at, state_at}
use Rattle.rcu_graph.specs.declared.known.Node.{Node}
use Rattle.rcu_graph.specs.declared.node_state.NodeState.{NodeState}
use Rattle.rcu_graph.specs.declared.plan.Plan.{Plan}

-- the nodes of a graph of this plan
pub record Mirrored : Type 0 where
  pub plan : Plan
  pub nodes : List Node

-- nodes in these states, whose links and words are in rows one after another
abbrev pub nodes_of : ℕ → ℕ → List NodeState → List ℕ → List ℕ → List Node
nodes_of links width [] cells words = []
nodes_of links width (state ∷ states) cells words =
    record { state = state; links = take links cells; words = take width words }
    ∷ nodes_of links width states (drop links cells) (drop width words)

-- the node with other words
abbrev pub with_words : List ℕ → Node → Node
with_words words v = record { state = v.state; links = v.links; words = words }

-- each of this number of nodes has this number of links and words
abbrev pub AreSized : ℕ → ℕ → ℕ → List Node → Type 0
AreSized count links width nodes =
    (i : ℕ) → i < count
    → (length (node_at nodes i).links ≡ links) × (length (node_at nodes i).words ≡ width)

-- none of the nodes was retired after this number
abbrev pub AreBy : Number → List Node → Type 0
AreBy latest nodes = (i : ℕ) → IsBy latest (state_at nodes i)

-- the node with other words as far as the place k
abbrev pub with_words_to : ℕ → List ℕ → Node → Node
with_words_to k words v = record {
  state = v.state;
  links = v.links;
  words = take k words ++ drop k v.words;
}

-- the node with other links as far as the place l
abbrev pub with_links_to : ℕ → List ℕ → Node → Node
with_links_to l links v = record {
  state = v.state;
  links = take l links ++ drop l v.links;
  words = v.words;
}
