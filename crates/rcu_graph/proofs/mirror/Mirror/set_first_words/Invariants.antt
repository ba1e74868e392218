use Rattle.std.proofs.Common.{◌≡◌}
use Rattle.rcu_graph.specs.Mirror.{with_words_to}
use Rattle.rcu_graph.specs.Nodes.{renewed}
use Rattle.rcu_graph.proofs.mirror.Mirror.set_first_words.Given as goal

abbrev pub invariant-loop-word : goal.invariant-loop-word
invariant-loop-word g l = record {
  plan : l.self.plan ≡ l.initial.self.plan;
  nodes : l.self.nodes
      ≡ renewed l.initial.self.nodes l.root
      (with_words_to l.word (g.F.Shape.first l.initial.self.plan l.root));
}
