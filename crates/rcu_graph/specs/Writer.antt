-- The conditions of a writer's steps, and their effect.
use Rattle.std.specs.Prelude.{◌≡◌, ◌<◌, ℕ, suc, List, length, max, slice_index}
use Rattle.rcu_seq.specs.Numbers.{Number}
use Rattle.rcu_live.specs.Board.{Object}
use Rattle.rcu_live.specs.View.{IsOfWatcher}
use Rattle.rcu_live.specs.Watcher.{Watching, after_number_step, after_word_step}
use Rattle.rcu_graph.specs.Graph.{IsWatcherOf}
use Rattle.rcu_graph.specs.Nodes.{IsKeeping, IsTarget, in_state, latest_in, linked_to, node_at}
use Rattle.rcu_graph.specs.Nodes.{nodes_in, reclaimed, renewed, state_at, stored_in, worded}
use Rattle.rcu_graph.specs.Planned.{knowing}
use Rattle.rcu_graph.specs.Steps.{keeping, storing}
use Rattle.rcu_graph.specs.declared.known.Planned.{Planned}
use Rattle.rcu_graph.specs.declared.known.Known.TheVariants.{Writer}
use Rattle.rcu_graph.specs.declared.known.Node.{Node}
use Rattle.rcu_graph.specs.declared.node_state.NodeState.TheVariants.{Free, Live, Unlinked}
use Rattle.rcu_graph.specs.declared.plan.Plan.{Plan}

-- a watcher of the graph that is its nodes' writer
pub record IsWriterOf (graph : Object Plan) (watcher : Watching Planned) : Type 0 where
  pub watches : IsWatcherOf graph watcher
  pub role : IsOfWatcher watcher.view
  pub keeps : IsKeeping watcher.view.client.known
  pub few : length (nodes_in watcher.view.client.known) ≡ graph.plan.nodes

-- the node i may be published: it is free and whole, and each of its links leads nowhere or to a
-- live node to which it may lead
pub record IsReady (fits : List ℕ → Type 0) (joins : ℕ → List ℕ → List ℕ → Type 0) (links : ℕ)
    (nodes : List Node) (i : ℕ) : Type 0 where
  pub free : state_at nodes i ≡ Free
  pub whole : fits (node_at nodes i).words
  pub led : (l : ℕ) → l < links
      → IsTarget (joins l) (node_at nodes i).words nodes (slice_index (node_at nodes i).links l)

-- the nodes are then these, and no live one was led elsewhere
abbrev pub after_step : Watching Planned → List Node → Watching Planned
after_step writer nodes = after_word_step writer
    (knowing writer.view.client (keeping writer.view.client.known nodes))

-- the nodes became the first ones by one store that led a live one elsewhere, and are then the
-- others
abbrev pub after_store : Watching Planned → List Node → List Node → Watching Planned
after_store writer stored nodes = after_word_step writer
    (knowing writer.view.client (keeping (storing writer.view.client.known stored) nodes))

-- after a store of the word k of a free node i, and of its link l
abbrev pub after_write : Watching Planned → ℕ → ℕ → ℕ → Watching Planned
after_write writer i k x = after_step writer (renewed (nodes_in writer.view.client.known) i
    (worded k x))

abbrev pub after_write_link : Watching Planned → ℕ → ℕ → ℕ → Watching Planned
after_write_link writer i l x =
    after_step writer (renewed (nodes_in writer.view.client.known) i (linked_to l x))

-- the nodes are then these, by one store
abbrev pub stored_to : Watching Planned → List Node → Watching Planned
stored_to writer nodes = after_store writer nodes nodes

-- after a store of the link l of a live node i
abbrev pub after_link : Watching Planned → ℕ → ℕ → ℕ → Watching Planned
after_link writer i l x =
    stored_to writer (renewed (nodes_in writer.view.client.known) i (linked_to l x))

-- after it was led to the node j, which is then live
abbrev pub after_publish : Watching Planned → ℕ → ℕ → ℕ → Watching Planned
after_publish writer i l j =
    stored_to writer
    (renewed (renewed (nodes_in writer.view.client.known) j (in_state Live)) i
    (linked_to l (suc j)))

-- after the node i was unlinked
abbrev pub after_mark_unlinked : Watching Planned → ℕ → Watching Planned
after_mark_unlinked writer i = after_step writer (renewed (nodes_in writer.view.client.known) i
    (in_state Unlinked))

-- after a load of the number
abbrev pub after_look : Watching Planned → Number → Watching Planned
after_look writer number =
    after_number_step writer number
    (knowing writer.view.client
    (Writer (max number (latest_in writer.view.client.known))
    (reclaimed number (max number (latest_in writer.view.client.known))
    (nodes_in writer.view.client.known))
    (stored_in writer.view.client.known)))
