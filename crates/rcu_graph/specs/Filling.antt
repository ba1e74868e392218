-- The writer after a free node's words are written, and after its links are.
use Rattle.std.specs.Prelude.{◌≡◌, ◌<◌, ℕ, List, length}
use Rattle.rcu_live.specs.Board.{Object}
use Rattle.rcu_live.specs.Watcher.{Watching}
use Rattle.rcu_graph.specs.Graph.{IsWatcherOf}
use Rattle.rcu_graph.specs.Writer.{after_step}
use Rattle.rcu_graph.specs.Mirror.{with_words}
use Rattle.rcu_graph.specs.Nodes.{IsKeeping, node_at, nodes_in, renewed, state_at}
use Rattle.rcu_graph.specs.declared.known.Planned.{Planned}
use Rattle.rcu_graph.specs.declared.known.Node.{Node}
use Rattle.rcu_graph.specs.declared.node_state.NodeState.TheVariants.{Free}
use Rattle.rcu_graph.specs.declared.plan.Plan.{Plan}

-- the node with other links
abbrev pub with_links : List ℕ → Node → Node
with_links links v = record { state = v.state; links = links; words = v.words }

-- after the words of the node i were written, and after its links were
abbrev pub after_words : Watching Planned → ℕ → List ℕ → Watching Planned
after_words writer i words =
    after_step writer (renewed (nodes_in writer.view.client.known) i (with_words words))

abbrev pub after_links : Watching Planned → ℕ → List ℕ → Watching Planned
after_links writer i links =
    after_step writer (renewed (nodes_in writer.view.client.known) i (with_links links))

-- a watcher of the graph may store the k-th of this number of words, or links, of the node i: that
-- node is free
pub record CanStore (row : ℕ) (graph : Object Plan) (writer : Watching Planned)
    (i k : ℕ) : Type 0 where
  pub watches : IsWatcherOf graph writer
  pub inside : i < graph.plan.nodes
  pub free : state_at (nodes_in writer.view.client.known) i ≡ Free
  pub cell : k < row

-- a watcher of the graph may fill the node i: the node is free, and has all its links and words
pub record CanFill (graph : Object Plan) (writer : Watching Planned) (i : ℕ) : Type 0 where
  pub watches : IsWatcherOf graph writer
  pub keeps : IsKeeping writer.view.client.known
  pub few : length (nodes_in writer.view.client.known) ≡ graph.plan.nodes
  pub inside : i < graph.plan.nodes
  pub free : state_at (nodes_in writer.view.client.known) i ≡ Free
  pub link_count : length (node_at (nodes_in writer.view.client.known) i).links ≡ graph.plan.links
  pub word_count : length (node_at (nodes_in writer.view.client.known) i).words ≡ graph.plan.words
