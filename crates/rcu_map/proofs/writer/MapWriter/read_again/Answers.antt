use Rattle.rcu_graph.specs.Nodes.{nodes_in}
use Rattle.rcu_map.specs.Chains.{buckets_in}
use Rattle.rcu_map.proofs.AsRead.{as_read, same_words}
use Rattle.rcu_map.proofs.writer.MapWriter.read_again.Goals as goal

pub returns-clause-as_read : goal.returns-clause-as_read
returns-clause-as_read g c = (
  λ e. as_read (buckets_in c.args.self.now) (nodes_in c.args.self.now.view.client.known)
      c.args.node c.args.words.now c.requires.node (c.has_words-as_read.ensures.0 e),
  λ read. c.has_words-as_read.ensures.1 (same_words _ _ _ _ _ _ c.kept.ensures.map c.args.node
      c.args.words.now c.requires.node read),
)
