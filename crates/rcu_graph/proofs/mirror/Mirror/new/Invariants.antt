use Rattle.std.proofs.Common.{◌≡◌}
use Rattle.rcu_graph.specs.Nodes.{first_nodes}
use Rattle.rcu_graph.proofs.mirror.Mirror.new.Given as goal

abbrev pub invariant-loop-root : goal.invariant-loop-root
invariant-loop-root g l = record {
  plan : l.mirror.plan ≡ l.fn.plan;
  nodes : l.mirror.nodes
      ≡ first_nodes l.fn.plan.links l.fn.plan.words (g.F.Shape.first l.fn.plan) l.root
      l.fn.plan.nodes;
}
