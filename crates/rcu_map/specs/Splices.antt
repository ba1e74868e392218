-- The place of a key in a chain, the conditions for taking a node out of one, and the effect.
use Rattle.std.specs.Prelude.{◌≡◌, ◌<◌, ℕ, suc, List, Option, Some, None, length}
use Rattle.rcu_live.specs.Board.{Object}
use Rattle.rcu_live.specs.Watcher.{Watching}
use Rattle.rcu_graph.specs.Absence.{key_at, next_of}
use Rattle.rcu_graph.specs.Graph.{word_to}
use Rattle.rcu_graph.specs.Writer.{IsWriterOf, after_store}
use Rattle.rcu_graph.specs.Nodes.{IsTarget, node_at, nodes_in, state_at}
use Rattle.rcu_graph.specs.Opening.{AreWhole}
use Rattle.rcu_graph.specs.Puts.{AreKept, IsFreeNode, put}
use Rattle.rcu_graph.specs.Steps.{IsClaimed}
use Rattle.rcu_graph.specs.Tended.{AreCollected, AreLed, relinked}
use Rattle.rcu_graph.specs.declared.known.Planned.{Planned}
use Rattle.rcu_graph.specs.declared.known.Node.{Node}
use Rattle.rcu_graph.specs.declared.node_state.NodeState.TheVariants.{Live}
use Rattle.rcu_graph.specs.declared.plan.Plan.{Plan}
use Rattle.rcu_map.specs.Keys.{bucket_in, bucket_of}

-- the node leads to this one, which has the key; or to none that has it: nowhere, or to one with a
-- greater key
abbrev pub LeadsToKey : ℕ → List Node → ℕ → Option ℕ → Type 0
LeadsToKey key nodes i (Some node) = (next_of nodes i ≡ suc node) × (key_at nodes node ≡ key)
LeadsToKey key nodes i None = (to : ℕ) → next_of nodes i ≡ suc to → key < key_at nodes to

-- a key belongs behind this node of its bucket, whose key is less: it leads to the node that has
-- the key, or to none
pub record IsPlace (buckets seed key : ℕ) (nodes : List Node) (previous : ℕ)
    (node : Option ℕ) : Type 0 where
  pub live : state_at nodes previous ≡ Live
  pub bucket : bucket_in buckets seed (node_at nodes previous).words ≡ bucket_of buckets seed key
  pub less : key_at nodes previous < key
  pub leads : LeadsToKey key nodes previous node

-- the seat may become the writer of the graph's nodes, which are as at first
pub record CanKeep (fits : List ℕ → Type 0) (first : ℕ → List ℕ) (graph : Object Plan)
    (seat : Watching Planned) : Type 0 where
  pub one : graph.plan.links ≡ 1
  pub writer : IsWriterOf graph seat
  pub nodes : IsClaimed first graph.plan.roots graph.plan.links graph.plan.words graph.plan.nodes
      seat.view.client.known
  pub whole : AreWhole fits first graph.plan

-- the nodes became these by one store: a free node, which was filled before, was put behind a live
-- one; or a live one was led elsewhere
pub data IsOneStore (before stored : List Node) : Type 0 where
  by_put : (previous node : ℕ) (words : List ℕ) (next : Option ℕ)
      → state_at before previous ≡ Live → IsFreeNode before node
      → stored ≡ put before previous node words next → IsOneStore before stored
  by_passing : (previous : ℕ) (next : Option ℕ)
      → state_at before previous ≡ Live → stored ≡ relinked before previous 0 next
      → IsOneStore before stored

-- the writer may lead one node to the target of the other one
pub record CanPass (joins : ℕ → List ℕ → List ℕ → Type 0) (writer : Watching Planned)
    (previous old : ℕ) : Type 0 where
  pub one : writer.view.client.plan.links ≡ 1
  pub few : length (nodes_in writer.view.client.known) ≡ writer.view.client.plan.nodes
  pub live : state_at (nodes_in writer.view.client.known) previous ≡ Live
  pub inside : old < writer.view.client.plan.nodes
  pub target : IsTarget (joins 0) (node_at (nodes_in writer.view.client.known) previous).words
      (nodes_in writer.view.client.known) (next_of (nodes_in writer.view.client.known) old)

-- the previous node was led to the target of the old one, by one store, and every node to which no
-- live node leads was unlinked
pub record HasPassed (fits : List ℕ → Type 0) (joins : ℕ → List ℕ → List ℕ → Type 0)
    (before now : Watching Planned) (previous old : ℕ) : Type 0 where
  pub next : Option ℕ
  pub leads : word_to next ≡ next_of (nodes_in before.view.client.known) old
  pub state : now ≡ after_store before
      (relinked (nodes_in before.view.client.known) previous 0 next)
      (nodes_in now.view.client.known)
  pub kept : AreKept fits joins before.view.client.plan.roots before.view.client.plan.nodes
      (nodes_in now.view.client.known)
  pub led : AreLed joins 1 (relinked (nodes_in before.view.client.known) previous 0 next)
  pub collected : AreCollected before.view.client.plan.roots 1
      (relinked (nodes_in before.view.client.known) previous 0 next)
      (nodes_in now.view.client.known)

-- the writer has the nodes of the graph as its seat had them
pub record HasKept (fits : List ℕ → Type 0) (joins : ℕ → List ℕ → List ℕ → Type 0)
    (graph : Object Plan) (seat writer : Watching Planned) : Type 0 where
  pub same : writer ≡ seat
  pub kept : AreKept fits joins graph.plan.roots graph.plan.nodes
      (nodes_in writer.view.client.known)
