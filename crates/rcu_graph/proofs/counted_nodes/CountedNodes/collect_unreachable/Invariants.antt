use Rattle.std.proofs.Common.{◌≡◌, ◌-◌, [], List}
use Rattle.rcu_live.specs.Watcher.{Watching}
use Rattle.rcu_graph.specs.Graph.{IsWatcherOf}
use Rattle.rcu_graph.specs.Writer.{after_step}
use Rattle.rcu_graph.specs.Nodes.{nodes_in}
use Rattle.rcu_graph.specs.Collecting.{IsCollecting}
use Rattle.rcu_graph.specs.declared.known.Planned.{Planned}
use Rattle.rcu_graph.specs.declared.known.Node.{Node}
use Rattle.rcu_graph.proofs.counted_nodes.CountedNodes.collect_unreachable.Given as goal

abbrev pub invariant-unlinking : goal.invariant-unlinking
invariant-unlinking g l = record {
  graph : IsWatcherOf l.graph l.self.nodes;
  state : (before : Watching Planned)
      → l.initial.self.nodes ≡ after_step before (nodes_in l.initial.self.nodes.view.client.known)
      → l.self.nodes ≡ after_step before (nodes_in l.self.nodes.view.client.known);
  collecting : (stored : List Node)
      → IsCollecting l.graph.plan.nodes l.graph.plan.roots l.graph.plan.links stored
      (nodes_in l.initial.self.nodes.view.client.known)
      l.initial.self.counts.items l.initial.self.unlinking.items 0 l.initial.unlinked []
      → IsCollecting l.graph.plan.nodes l.graph.plan.roots l.graph.plan.links stored
      (nodes_in l.self.nodes.view.client.known)
      l.self.counts.items l.self.unlinking.items l.done l.unlinked [];
}

abbrev pub decreases-unlinking : goal.decreases-unlinking
decreases-unlinking g l = l.graph.plan.nodes - l.done
