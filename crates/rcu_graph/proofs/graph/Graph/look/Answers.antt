use Rattle.rcu_graph.proofs.Allowed.{reclaim_allowed}
use Rattle.rcu_graph.proofs.graph.Graph.look.Goals as goal

pub look_at_number-requires-clause-allowed : goal.look_at_number-requires-clause-allowed
look_at_number-requires-clause-allowed g c =
    reclaim_allowed g.F.Shape.fits g.F.Shape.joins g.F.Shape.first _ _
    (g.P.Within.lens.get c.args.seat.now.view.client)
    c.args.self.now.plan c.requires.watches.planned c.requires.keeps
