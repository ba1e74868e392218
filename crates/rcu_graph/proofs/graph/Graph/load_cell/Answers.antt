use Rattle.rcu_graph.proofs.Allowed.{cell_allowed}
use Rattle.rcu_graph.proofs.graph.Graph.load_cell.Goals as goal

pub load-requires-clause-allowed : goal.load-requires-clause-allowed
load-requires-clause-allowed g c =
    cell_allowed g.F.Shape.fits g.F.Shape.joins g.F.Shape.first c.args.self.now.plan
    g.M.WordStep.then _ _ _ _ c.args.layout c.args.node c.args.k c.root_place-place.result
    c.requires.layout c.root_place-place.ensures.place c.requires.allowed

pub load-requires-2-clause-allowed : goal.load-requires-2-clause-allowed
load-requires-2-clause-allowed g c =
    cell_allowed g.F.Shape.fits g.F.Shape.joins g.F.Shape.first c.args.self.now.plan
    g.M.WordStep.then _ _ _ _ c.args.layout c.args.node c.args.k c.row_place-place.result
    c.requires.layout c.row_place-place.ensures.place c.requires.allowed
