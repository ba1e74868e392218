use Rattle.std.proofs.Common.{◌≡◌, map}
use Rattle.rcu_graph.specs.Graph.{word_to}
use Rattle.rcu_graph.specs.Writer.{after_step}
use Rattle.rcu_graph.specs.Mirror.{with_links_to}
use Rattle.rcu_graph.specs.Nodes.{nodes_in, renewed}
use Rattle.rcu_graph.proofs.known_nodes.KnownNodes.fill_links.Given as goal

abbrev pub invariant-loop-link : goal.invariant-loop-link
invariant-loop-link g l =
    l.self
    ≡ after_step l.initial.self
    (renewed (nodes_in l.initial.self.view.client.known) l.node
    (with_links_to l.link (map word_to l.links)))
