use Rattle.std.proofs.Common.{◌∙◌, arith, length-set}
use Rattle.rcu_live.specs.InPart.{watcher_part}
use Rattle.rcu_graph.specs.Steps.{IsPublished}
use Rattle.rcu_graph.specs.declared.plan.Plan.{Plan}
use Rattle.rcu_graph.proofs.Allowed.{publish_allowed}
use Rattle.rcu_graph.proofs.Keeping.{keeps_on, led_to}
use Rattle.rcu_graph.proofs.Planned.{told_at}
use Rattle.rcu_graph.proofs.graph.Graph.publish.Goals as goal

pub store-requires-clause-allowed : goal.store-requires-clause-allowed
store-requires-clause-allowed g c =
    publish_allowed g.F.Shape.fits g.F.Shape.joins g.F.Shape.first _ _
    (g.P.Within.lens.get c.args.seat.now.view.client)
    c.args.self.now.plan c.requires.writer.watches.planned c.args.from c.args.link c.args.to
    c.place-place.result _
    c.requires.writer.keeps (omega (arith, c.requires.writer.few, c.requires.can.from_inside))
    (omega (arith, c.requires.writer.few, c.requires.can.to_inside))
    c.requires.can.link_inside c.requires.can.live c.requires.can.ready c.requires.can.joined
    c.place-place.ensures.place
    (omega arith)

pub returns-clause-writer : goal.returns-clause-writer
returns-clause-writer g c =
    let e = c.store.ensures.part in
    let k = c.requires.writer in
    keeps_on _ _ _ _ _ _ e.state e.told.0
    (told_at (λ (p : Plan). IsPublished p.roots p.links p.words) c.place-place.result
    (g.P.Within.lens.get c.args.seat.now.view.client) _
    (g.P.Within.lens.get c.store.new.seat.view.client) c.args.self.now.plan
    k.watches.planned e.told c.args.from c.args.link c.args.to c.requires.can.link_inside
    c.place-place.ensures.place
    (omega arith))
    (length-set _ _ _ ∙ (length-set _ _ _ ∙ k.few)) k

pub returns-clause-state : goal.returns-clause-state
returns-clause-state g c =
    let e = c.store.ensures.part in
    led_to (watcher_part g.P.Within.lens c.args.seat.now)
    (watcher_part g.P.Within.lens c.store.new.seat) c.args.self.now.plan _ c.args.from c.args.link
    c.args.to _ e.state c.requires.writer.watches.planned e.told c.requires.can.link_inside
    c.place-place.ensures.place (omega arith)
