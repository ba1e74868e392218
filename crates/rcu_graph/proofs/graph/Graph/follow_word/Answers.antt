use Rattle.std.proofs.Common.{ℕ, refl, subst}
use Rattle.rcu_graph.specs.Steps.{Followed}
use Rattle.rcu_graph.proofs.Allowed.{follow_allowed}
use Rattle.rcu_graph.proofs.Planned.{followed_of}
use Rattle.rcu_graph.proofs.Walking.{followed_at, followed_walks}
use Rattle.rcu_graph.proofs.graph.Graph.follow_word.Goals as goal

pub load_cell-requires-clause-allowed : goal.load_cell-requires-clause-allowed
load_cell-requires-clause-allowed g c =
    follow_allowed g.F.Shape.fits g.F.Shape.joins g.F.Shape.first _ _
    (g.P.Within.lens.get c.args.seat.now.view.client)
    c.args.self.now.plan c.requires.at.walking.seat_of.planned c.args.from c.args.link _
    c.requires.at.walking.is_open c.requires.at.walking.reads
    (c.requires.at.words, c.requires.at.on)
    c.requires.link refl

pub returns-clause-came : goal.returns-clause-came
returns-clause-came g c = λ words on.
    followed_of g.F.Shape.fits g.F.Shape.joins g.F.Shape.first c.args.self.now.plan
    (g.P.Within.lens.get c.args.seat.now.view.client)
    (g.P.Within.lens.get c.load_cell.new.seat.view.client) c.args.from c.args.link _ _
    words c.requires.at.walking.seat_of.planned c.load_cell.ensures.part.told c.requires.link
    refl on

pub returns-clause-walking : goal.returns-clause-walking
returns-clause-walking g c =
    let at = c.requires.at in
    followed_walks _ _ _ _ _ _ _ _ _ _ c.load_cell.ensures.part.state
    c.load_cell.ensures.part.told.0 at.walking
    (followed_of g.F.Shape.fits g.F.Shape.joins g.F.Shape.first c.args.self.now.plan
    (g.P.Within.lens.get c.args.seat.now.view.client)
    (g.P.Within.lens.get c.load_cell.new.seat.view.client) c.args.from c.args.link _ _
    at.words at.walking.seat_of.planned c.load_cell.ensures.part.told c.requires.link
    refl at.on)

pub returns-clause-on : goal.returns-clause-on
returns-clause-on g c = λ node some.
    let at = c.requires.at in
    followed_at (g.F.Shape.fits c.args.self.now.plan)
    (g.F.Shape.joins c.args.self.now.plan c.args.link at.words) c.args.self.now.plan.words
    c.args.self.now.plan.nodes _ _ _ _ _ _ _ c.load_cell.ensures.part.state
    c.load_cell.ensures.part.told.0 at.walking
    (subst (λ (x : ℕ). Followed (g.F.Shape.fits c.args.self.now.plan)
    (g.F.Shape.joins c.args.self.now.plan c.args.link at.words) c.args.self.now.plan.words
    c.args.self.now.plan.nodes (g.P.Within.lens.get c.args.seat.now.view.client).known c.args.from
    c.args.link x
    (g.P.Within.lens.get c.load_cell.new.seat.view.client).known)
    some
    (followed_of g.F.Shape.fits g.F.Shape.joins g.F.Shape.first c.args.self.now.plan
    (g.P.Within.lens.get c.args.seat.now.view.client)
    (g.P.Within.lens.get c.load_cell.new.seat.view.client) c.args.from c.args.link _ _
    at.words at.walking.seat_of.planned c.load_cell.ensures.part.told c.requires.link
    refl at.on))
    refl
