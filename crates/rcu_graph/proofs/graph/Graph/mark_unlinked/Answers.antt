use Rattle.std.proofs.Common.{◌∙◌, ◌+◌, ◌<◌, ap, arith, length-set, subst, sym}
use Rattle.rcu_live.specs.InPart.{watcher_part}
use Rattle.rcu_live.specs.Watcher.{after_word_step}
use Rattle.rcu_graph.specs.Steps.{IsMarkedUnlinked}
use Rattle.rcu_graph.specs.declared.known.Planned.{Planned}
use Rattle.rcu_graph.specs.declared.plan.Plan.{Plan}
use Rattle.rcu_graph.proofs.Allowed.{mark_unlinked_allowed}
use Rattle.rcu_graph.proofs.Keeping.{keeps_on}
use Rattle.rcu_graph.proofs.Planned.{same_plan, told_at}
use Rattle.rcu_graph.proofs.graph.Graph.mark_unlinked.Goals as goal

pub watch-requires-clause-allowed : goal.watch-requires-clause-allowed
watch-requires-clause-allowed g c =
    let is = same_plan c.args.self.now _ c.self.inside.plan c.self.view_is c.self.invariant.planned
    in
    mark_unlinked_allowed g.F.Shape.fits g.F.Shape.joins g.F.Shape.first _ _
    (g.P.Within.lens.get c.args.seat.now.view.client)
    c.args.self.now.plan c.requires.writer.watches.planned c.args.node c.place-place.result
    c.requires.writer.keeps (omega (arith, c.requires.writer.few, c.requires.node))
    (subst (λ (p : Plan). 0 < p.links + p.words) (sym is) (omega (arith, c.self.invariant.words)))
    c.requires.no_root c.requires.live c.requires.unlinked c.place-place.ensures.place

pub returns-clause-writer : goal.returns-clause-writer
returns-clause-writer g c =
    let e = c.watch.ensures.part in
    let k = c.requires.writer in
    let is = same_plan c.args.self.now _ c.self.inside.plan
    c.self.view_is c.self.invariant.planned in
    keeps_on _ _ _ _ _ _ e.state e.told.0
    (told_at (λ (p : Plan). IsMarkedUnlinked p.roots p.links p.words) c.place-place.result
    (g.P.Within.lens.get c.args.seat.now.view.client) c.watch.result
    (g.P.Within.lens.get c.watch.new.seat.view.client)
    c.args.self.now.plan k.watches.planned e.told c.args.node 0
    (subst (λ (p : Plan). 0 < p.links + p.words) (sym is) (omega (arith, c.self.invariant.words)))
    c.place-place.ensures.place)
    (length-set _ _ _ ∙ k.few) k

pub returns-clause-state : goal.returns-clause-state
returns-clause-state g c =
    let e = c.watch.ensures.part in
    let k = c.requires.writer in
    let is = same_plan c.args.self.now _ c.self.inside.plan
    c.self.view_is c.self.invariant.planned in
    let known =
    told_at (λ (p : Plan). IsMarkedUnlinked p.roots p.links p.words) c.place-place.result
    (g.P.Within.lens.get c.args.seat.now.view.client) c.watch.result
    (g.P.Within.lens.get c.watch.new.seat.view.client)
    c.args.self.now.plan k.watches.planned e.told c.args.node 0
    (subst (λ (p : Plan). 0 < p.links + p.words) (sym is) (omega (arith, c.self.invariant.words)))
    c.place-place.ensures.place in
    e.state ∙ ap (λ (client : Planned). after_word_step
    (watcher_part g.P.Within.lens c.args.seat.now)
    client)
    (λ i. record { plan = e.told.0 i; known = known i })
