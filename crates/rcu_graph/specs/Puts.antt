-- The conditions for putting a node into a chain, and the effect: for nodes with one link each.
use Rattle.std.specs.Prelude.{◌≡◌, ◌<◌, ℕ, List, [], ◌∷◌, Option, length, map}
use Rattle.rcu_live.specs.Watcher.{Watching}
use Rattle.rcu_graph.specs.Graph.{word_to}
use Rattle.rcu_graph.specs.Writer.{after_store}
use Rattle.rcu_graph.specs.Nodes.{IsTarget, node_at, nodes_in, renewed, state_at}
use Rattle.rcu_graph.specs.Tended.{AreAllUsed, AreCollected, AreLed, AreTended, filled_with}
use Rattle.rcu_graph.specs.Tended.{published}
use Rattle.rcu_graph.specs.declared.known.Planned.{Planned}
use Rattle.rcu_graph.specs.declared.known.Node.{Node}
use Rattle.rcu_graph.specs.declared.node_state.NodeState.TheVariants.{Free, Live}

-- this node exists, and is free
pub record IsFreeNode (nodes : List Node) (node : ℕ) : Type 0 where
  pub inside : node < length nodes
  pub free : state_at nodes node ≡ Free

-- this number of nodes are tended, along the one link that each has
pub record AreKept (fits : List ℕ → Type 0) (joins : ℕ → List ℕ → List ℕ → Type 0) (roots count : ℕ)
    (nodes : List Node) : Type 0 where
  pub few : length nodes ≡ count
  pub tended : AreTended fits joins roots 1 nodes

-- the writer may put a node of these words behind this one, which may lead to it, as it may to the
-- next one
pub record CanPut (fits : List ℕ → Type 0) (joins : ℕ → List ℕ → List ℕ → Type 0)
    (writer : Watching Planned) (previous : ℕ) (words : List ℕ)
    (next : Option ℕ) : Type 0 where
  pub one : writer.view.client.plan.links ≡ 1
  pub few : length (nodes_in writer.view.client.known) ≡ writer.view.client.plan.nodes
  pub sized : length words ≡ writer.view.client.plan.words
  pub live : state_at (nodes_in writer.view.client.known) previous ≡ Live
  pub whole : fits words
  pub joined : joins 0 (node_at (nodes_in writer.view.client.known) previous).words words
  pub target : IsTarget (joins 0) words (nodes_in writer.view.client.known) (word_to next)

-- the nodes after these words were written to a node, with a link to the next one, and the previous
-- one was led to it
abbrev pub put : List Node → ℕ → ℕ → List ℕ → Option ℕ → List Node
put nodes previous node words next =
    published (renewed nodes node (filled_with (map word_to (next ∷ [])) words)) previous 0 node

-- a free node was put behind the previous one by one store, and every node to which no live node
-- leads was unlinked
pub record HasPut (fits : List ℕ → Type 0) (joins : ℕ → List ℕ → List ℕ → Type 0)
    (before now : Watching Planned) (previous node : ℕ) (words : List ℕ)
    (next : Option ℕ) : Type 0 where
  pub inside : node < before.view.client.plan.nodes
  pub free : state_at (nodes_in before.view.client.known) node ≡ Free
  pub state : now ≡ after_store before
      (put (nodes_in before.view.client.known) previous node words next)
      (nodes_in now.view.client.known)
  pub kept : AreKept fits joins before.view.client.plan.roots before.view.client.plan.nodes
      (nodes_in now.view.client.known)
  pub led : AreLed joins 1 (put (nodes_in before.view.client.known) previous node words next)
  pub collected : AreCollected before.view.client.plan.roots 1
      (put (nodes_in before.view.client.known) previous node words next)
      (nodes_in now.view.client.known)

-- no node was free, and nothing changed
pub record IsFull (before now : Watching Planned) : Type 0 where
  pub full : AreAllUsed (nodes_in before.view.client.known)
  pub unchanged : now ≡ before
