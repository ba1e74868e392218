use Rattle.std.proofs.Common.{◌≡◌}
use Rattle.rcu_graph.specs.Writer.{after_step}
use Rattle.rcu_graph.specs.Mirror.{with_words_to}
use Rattle.rcu_graph.specs.Nodes.{nodes_in, renewed}
use Rattle.rcu_graph.proofs.known_nodes.KnownNodes.fill_words.Given as goal

abbrev pub invariant-loop-word : goal.invariant-loop-word
invariant-loop-word g l =
    l.self
    ≡ after_step l.initial.self
    (renewed (nodes_in l.initial.self.view.client.known) l.node (with_words_to l.word l.words))
