use Rattle.std.proofs.Common.{◌∙◌, arith, length-set}
use Rattle.rcu_graph.specs.Steps.{IsLinkWritten}
use Rattle.rcu_graph.specs.declared.plan.Plan.{Plan}
use Rattle.rcu_graph.proofs.Allowed.{write_link_allowed}
use Rattle.rcu_graph.proofs.Keeping.{keeps_on}
use Rattle.rcu_graph.proofs.Planned.{told_at}
use Rattle.rcu_graph.proofs.graph.Graph.write_link.Goals as goal

pub store-requires-clause-allowed : goal.store-requires-clause-allowed
store-requires-clause-allowed g c =
    write_link_allowed g.F.Shape.fits g.F.Shape.joins g.F.Shape.first _ _
    (g.P.Within.lens.get c.args.seat.now.view.client)
    c.args.self.now.plan c.requires.writer.watches.planned c.args.node c.args.link
    c.place-place.result c.args.value
    c.requires.writer.keeps (omega (arith, c.requires.writer.few, c.requires.node)) c.requires.free
    c.requires.link
    c.place-place.ensures.place

pub returns-clause-writer : goal.returns-clause-writer
returns-clause-writer g c =
    let e = c.store.ensures.part in
    let k = c.requires.writer in
    keeps_on _ _ _ _ _ _ e.state e.told.0
    (told_at (λ (p : Plan). IsLinkWritten p.roots p.links p.words) c.place-place.result
    (g.P.Within.lens.get c.args.seat.now.view.client) c.args.value
    (g.P.Within.lens.get c.store.new.seat.view.client)
    c.args.self.now.plan k.watches.planned e.told c.args.node c.args.link c.requires.link
    c.place-place.ensures.place)
    (length-set _ _ _ ∙ k.few) k
