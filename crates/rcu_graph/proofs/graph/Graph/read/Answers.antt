use Rattle.std.proofs.Common.{◌+◌, ap}
use Rattle.rcu_graph.specs.Beside.{cell_of}
use Rattle.rcu_graph.specs.Steps.{IsRead}
use Rattle.rcu_graph.specs.declared.plan.Layout.{Layout}
use Rattle.rcu_graph.specs.declared.plan.Plan.{Plan}
use Rattle.rcu_graph.proofs.Allowed.{read_allowed}
use Rattle.rcu_graph.proofs.Planned.{told_at}
use Rattle.rcu_graph.proofs.graph.Graph.read.Goals as goal

pub load_cell-requires-clause-allowed : goal.load_cell-requires-clause-allowed
load_cell-requires-clause-allowed g c =
    read_allowed g.F.Shape.fits g.F.Shape.joins g.F.Shape.first _ _
    (g.P.Within.lens.get c.args.seat.now.view.client)
    c.args.self.now.plan c.requires.at.walking.seat_of.planned c.args.node c.args.word
    (cell_of c.args.self.now.plan c.args.node (c.args.layout.plan.links + c.args.word))
    c.requires.at.walking.is_open c.requires.at.walking.reads
    (c.requires.at.words, c.requires.at.on)
    c.requires.word
    (ap (λ (layout : Layout).
    cell_of c.args.self.now.plan c.args.node (layout.plan.links + c.args.word)) c.requires.layout)

pub returns-clause-told : goal.returns-clause-told
returns-clause-told g c = λ words on.
    let told = told_at (λ (p : Plan). IsRead (g.F.Shape.first p) p.roots p.links p.words)
    (cell_of c.args.self.now.plan c.args.node (c.args.layout.plan.links + c.args.word))
    (g.P.Within.lens.get c.args.seat.now.view.client) c.load_cell.result
    (g.P.Within.lens.get c.load_cell.new.seat.view.client) c.args.self.now.plan
    c.requires.at.walking.seat_of.planned c.load_cell.ensures.part.told in
    told.1 c.args.node c.args.word words c.requires.word
    (ap (λ (layout : Layout).
    cell_of c.args.self.now.plan c.args.node (layout.plan.links + c.args.word)) c.requires.layout)
    on
