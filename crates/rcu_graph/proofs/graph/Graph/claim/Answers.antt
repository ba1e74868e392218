use Rattle.rcu_graph.proofs.Allowed.{claim_allowed}
use Rattle.rcu_graph.proofs.graph.Graph.claim.Goals as goal

pub watch-requires-clause-allowed : goal.watch-requires-clause-allowed
watch-requires-clause-allowed g c =
    claim_allowed g.F.Shape.fits g.F.Shape.joins g.F.Shape.first _ _
    (g.P.Within.lens.get c.args.seat.now.view.client)
    c.args.self.now.plan c.requires.seat.planned c.requires.owner
