use Rattle.std.proofs.Common.{◌≡◌, length}
use Rattle.rcu_live.specs.Watcher.{Watching}
use Rattle.rcu_graph.specs.Nodes.{nodes_in}
use Rattle.rcu_graph.specs.Tended.{AreTended}
use Rattle.rcu_graph.specs.declared.known.Planned.{Planned}
use Rattle.rcu_graph.specs.declared.plan.Plan.{Plan}
use Rattle.rcu_graph.proofs.Owned.{of_seat}
use Rattle.rcu_graph.proofs.writer.Writer.kept.Goals as goal

pub returns-clause-few : goal.returns-clause-few
returns-clause-few g c =
    of_seat c.self.inside.graph c.self.inside.counted.nodes c.args.self.now c.self.view_is
    c.self.invariant.watches
    (λ (p : Plan) (w : Watching Planned). length (nodes_in w.view.client.known) ≡ p.nodes)
    c.kept.ensures.writer.few

pub returns-clause-tended : goal.returns-clause-tended
returns-clause-tended g c =
    of_seat c.self.inside.graph c.self.inside.counted.nodes c.args.self.now c.self.view_is
    c.self.invariant.watches
    (λ (p : Plan) (w : Watching Planned). AreTended (g.F.Shape.fits p) (g.F.Shape.joins p) p.roots
    p.links (nodes_in w.view.client.known))
    c.self.invariant.counted.tended
