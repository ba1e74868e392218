use Rattle.std.proofs.Common.{◌≡◌, ◌-◌, ◌<◌}
use Rattle.rcu_graph.specs.Absence.{key_at}
use Rattle.rcu_graph.specs.Nodes.{node_at, nodes_in, state_at}
use Rattle.rcu_graph.specs.declared.node_state.NodeState.TheVariants.{Live}
use Rattle.rcu_map.specs.Keys.{bucket_in, bucket_of}
use Rattle.rcu_map.proofs.writer.MapWriter.place_of.Given as goal

abbrev pub invariant-chain : goal.invariant-chain
invariant-chain g l = record {
  live : state_at (nodes_in l.nodes.view.client.known) l.previous ≡ Live;
  bucket : bucket_in l.nodes.view.client.plan.roots l.nodes.view.client.plan.seed
      (node_at (nodes_in l.nodes.view.client.known)
      l.previous).words
      ≡ bucket_of l.nodes.view.client.plan.roots l.nodes.view.client.plan.seed l.key;
  less : key_at (nodes_in l.nodes.view.client.known) l.previous < l.key;
}

abbrev pub decreases-chain : goal.decreases-chain
decreases-chain g l = l.key - key_at (nodes_in l.nodes.view.client.known) l.previous
