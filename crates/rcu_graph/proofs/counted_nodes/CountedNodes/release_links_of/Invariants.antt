use Rattle.std.proofs.Common.{◌≡◌, ℕ, List, drop}
use Rattle.rcu_graph.specs.Graph.{IsWatcherOf}
use Rattle.rcu_graph.specs.Writer.{after_step}
use Rattle.rcu_graph.specs.Nodes.{node_at, nodes_in}
use Rattle.rcu_graph.specs.Collecting.{IsCollecting}
use Rattle.rcu_graph.specs.declared.known.Node.{Node}
use Rattle.rcu_graph.proofs.counted_nodes.CountedNodes.release_links_of.Given as goal

abbrev pub invariant-loop-link : goal.invariant-loop-link
invariant-loop-link g l = record {
  graph : IsWatcherOf l.graph l.self.nodes;
  state : l.self.nodes ≡ after_step l.initial.self.nodes (nodes_in l.self.nodes.view.client.known);
  collecting : (stored : List Node) (from : ℕ)
      → IsCollecting l.graph.plan.nodes l.graph.plan.roots l.graph.plan.links stored
      (nodes_in l.initial.self.nodes.view.client.known)
      l.initial.self.counts.items l.initial.self.unlinking.items from l.unlinked
      (node_at stored l.node).links
      → IsCollecting l.graph.plan.nodes l.graph.plan.roots l.graph.plan.links stored
      (nodes_in l.self.nodes.view.client.known)
      l.self.counts.items l.self.unlinking.items from l.gone
      (drop l.link (node_at stored l.node).links);
}
