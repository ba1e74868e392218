use Rattle.std.proofs.Common.{◌≡◌, ◌+◌, ◌<◌, ℕ, length, suc, take}
use Rattle.std.specs.Prelude.{slice_index}
use Rattle.rcu_graph.specs.Counts.{times_in}
use Rattle.rcu_graph.specs.Nodes.{node_at, nodes_in}
use Rattle.rcu_graph.proofs.counted_nodes.CountedNodes.count_links_of.Given as goal

abbrev pub invariant-loop-link : goal.invariant-loop-link
invariant-loop-link g l = record {
  nodes : l.self.nodes ≡ l.initial.self.nodes;
  unlinking : l.self.unlinking ≡ l.initial.self.unlinking;
  many : length l.self.counts.items ≡ l.graph.plan.nodes;
  counts : (k : ℕ)
      → k < l.graph.plan.nodes
      → slice_index l.self.counts.items k
      ≡ slice_index l.initial.self.counts.items k
      + times_in (take l.link (node_at (nodes_in l.initial.self.nodes.view.client.known)
      l.node).links)
      (suc k);
}
