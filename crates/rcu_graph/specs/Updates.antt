-- The conditions of a writer's updates of a link, and their effect.
use Rattle.std.specs.Prelude.{◌≡◌, ◌<◌, ℕ, List}
use Rattle.rcu_live.specs.Board.{Object}
use Rattle.rcu_live.specs.Watcher.{Watching}
use Rattle.rcu_graph.specs.Graph.{IsWatcherOf}
use Rattle.rcu_graph.specs.Writer.{IsReady, after_store}
use Rattle.rcu_graph.specs.Nodes.{IsTarget, node_at, nodes_in, state_at}
use Rattle.rcu_graph.specs.Tended.{AreCollected, AreLed}
use Rattle.rcu_graph.specs.Collecting.{IsCounted}
use Rattle.rcu_graph.specs.declared.known.Planned.{Planned}
use Rattle.rcu_graph.specs.declared.known.Node.{Node}
use Rattle.rcu_graph.specs.declared.node_state.NodeState.TheVariants.{Live}
use Rattle.rcu_graph.specs.declared.plan.Plan.{Plan}

-- the writer may lead this link of a live node to the target of this word: nowhere, or a live node
-- to which it may lead
pub record MayRelink (fits : List ℕ → Type 0) (joins : ℕ → List ℕ → List ℕ → Type 0)
    (graph : Object Plan) (writer : Watching Planned) (counts unlinking : List ℕ)
    (from link word : ℕ) : Type 0 where
  pub watches : IsWatcherOf graph writer
  pub counted : IsCounted fits joins graph.plan.nodes graph.plan.roots graph.plan.links
      (nodes_in writer.view.client.known) counts unlinking
  pub from_inside : from < graph.plan.nodes
  pub link_inside : link < graph.plan.links
  pub live : state_at (nodes_in writer.view.client.known) from ≡ Live
  pub target : IsTarget (joins link) (node_at (nodes_in writer.view.client.known) from).words
      (nodes_in writer.view.client.known) word

-- the writer's seat may lead this link of a live node to a free one that is ready, and to which it
-- may lead
pub record CanPublish (fits : List ℕ → Type 0) (joins : ℕ → List ℕ → List ℕ → Type 0)
    (graph : Object Plan) (writer : Watching Planned) (from link to : ℕ) : Type 0 where
  pub watches : IsWatcherOf graph writer
  pub from_inside : from < graph.plan.nodes
  pub to_inside : to < graph.plan.nodes
  pub link_inside : link < graph.plan.links
  pub live : state_at (nodes_in writer.view.client.known) from ≡ Live
  pub ready : IsReady fits joins graph.plan.links (nodes_in writer.view.client.known) to
  pub joined : joins link (node_at (nodes_in writer.view.client.known) from).words
      (node_at (nodes_in writer.view.client.known) to).words

-- the same for a writer that counts its nodes
pub record MayPublish (fits : List ℕ → Type 0) (joins : ℕ → List ℕ → List ℕ → Type 0)
    (graph : Object Plan) (writer : Watching Planned) (counts unlinking : List ℕ)
    (from link to : ℕ) : Type 0 where
  pub watches : IsWatcherOf graph writer
  pub counted : IsCounted fits joins graph.plan.nodes graph.plan.roots graph.plan.links
      (nodes_in writer.view.client.known) counts unlinking
  pub from_inside : from < graph.plan.nodes
  pub to_inside : to < graph.plan.nodes
  pub link_inside : link < graph.plan.links
  pub live : state_at (nodes_in writer.view.client.known) from ≡ Live
  pub ready : IsReady fits joins graph.plan.links (nodes_in writer.view.client.known) to
  pub joined : joins link (node_at (nodes_in writer.view.client.known) from).words
      (node_at (nodes_in writer.view.client.known) to).words

-- the writer has the nodes after one store, without those that were unlinked; it still counts the
-- links
pub record HasCollected (fits : List ℕ → Type 0) (joins : ℕ → List ℕ → List ℕ → Type 0)
    (graph : Object Plan) (before now : Watching Planned) (counts unlinking : List ℕ)
    (stored : List Node) : Type 0 where
  pub watches : IsWatcherOf graph now
  pub state : now ≡ after_store before stored (nodes_in now.view.client.known)
  pub counted : IsCounted fits joins graph.plan.nodes graph.plan.roots graph.plan.links
      (nodes_in now.view.client.known) counts unlinking
  pub led : AreLed joins graph.plan.links stored
  pub collected : AreCollected graph.plan.roots graph.plan.links stored
      (nodes_in now.view.client.known)
