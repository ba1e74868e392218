use Rattle.std.proofs.Common.{◌≡◌, ◌∙◌, ◌+◌, arith, length-set, subst, sym}
use Rattle.rcu_graph.specs.Nodes.{place_of}
use Rattle.rcu_graph.specs.Steps.{IsWritten}
use Rattle.rcu_graph.specs.declared.plan.Plan.{Plan}
use Rattle.rcu_graph.proofs.Allowed.{write_allowed}
use Rattle.rcu_graph.proofs.Keeping.{keeps_on}
use Rattle.rcu_graph.proofs.Planned.{same_plan, told_at}
use Rattle.rcu_graph.proofs.graph.Graph.write.Goals as goal

pub store-requires-clause-allowed : goal.store-requires-clause-allowed
store-requires-clause-allowed g c =
    let is = same_plan c.args.self.now _ c.self.inside.plan c.self.view_is c.self.invariant.planned
    in
    write_allowed g.F.Shape.fits g.F.Shape.joins g.F.Shape.first _ _
    (g.P.Within.lens.get c.args.seat.now.view.client)
    c.args.self.now.plan c.requires.writer.watches.planned c.args.node c.args.word
    c.place-place.result c.args.value
    c.requires.writer.keeps (omega (arith, c.requires.writer.few, c.requires.node))
    c.requires.free c.requires.word
    (subst (λ (p : Plan). c.place-place.result
    ≡ place_of c.args.self.now.plan.roots c.args.self.now.plan.links c.args.self.now.plan.words
    c.args.node
    (p.links + c.args.word))
    (sym is) c.place-place.ensures.place)

pub returns-clause-writer : goal.returns-clause-writer
returns-clause-writer g c =
    let e = c.store.ensures.part in
    let k = c.requires.writer in
    let is = same_plan c.args.self.now _ c.self.inside.plan
    c.self.view_is c.self.invariant.planned in
    keeps_on _ _ _ _ _ _ e.state e.told.0
    (told_at (λ (p : Plan). IsWritten p.roots p.links p.words) c.place-place.result
    (g.P.Within.lens.get c.args.seat.now.view.client) c.args.value
    (g.P.Within.lens.get c.store.new.seat.view.client)
    c.args.self.now.plan k.watches.planned e.told c.args.node c.args.word c.requires.word
    (subst (λ (p : Plan). c.place-place.result
    ≡ place_of c.args.self.now.plan.roots c.args.self.now.plan.links c.args.self.now.plan.words
    c.args.node
    (p.links + c.args.word))
    (sym is) c.place-place.ensures.place))
    (length-set _ _ _ ∙ k.few) k
