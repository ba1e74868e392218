use Rattle.std.proofs.Common.{◌≡◌, ◌∙◌, ◌+◌, ◌*◌, ◌^◌, ◌<◌, ◌≤◌, [], ap, arith, subst, sym}
use Rattle.std.specs.Arc.{arc_value}
use Rattle.rcu_live.specs.Board.{Object}
use Rattle.rcu_live.specs.InPart.{engine_part, watcher_part}
use Rattle.rcu_live.specs.SeveralLaws.{begins_behind}
use Rattle.rcu_live.specs.Watcher.{IsWatcherOf, Watching, after_word_step}
use Rattle.rcu_graph.specs.Nodes.{first_nodes, first_place}
use Rattle.rcu_graph.specs.Planned.{knowing, of_plan}
use Rattle.rcu_graph.specs.declared.known.Known.TheVariants.{Owner, Writer}
use Rattle.rcu_graph.specs.declared.plan.Plan.{Plan}
use Rattle.rcu_graph.proofs.Joins.{joined_as, joins}
use Rattle.rcu_graph.proofs.graph.Graph.join.Goals as goal

pub base-behind-requires : goal.base-behind-requires
base-behind-requires g c =
    let room = g.met.P.Within.has_room c.args.plan c.requires.suited in
    let words = ap (λ (o : Object g.row.P-Whole-Plan.Denot). o.table.words) c.deref-words.ensures in
    omega (arith, room.1, c.requires.words, c.fits.ensures, words)

pub invariant_of-graph : goal.invariant_of-graph
invariant_of-graph g c =
    let r = c.requires in
    let engine = arc_value c.args.board.now in
    let plan = c.args.plan in
    let clone = c.in_ok-try_clone.ensures in
    let room = g.met.P.Within.has_room plan r.suited in
    let words = ap (λ (o : Object g.row.P-Whole-Plan.Denot). o.table.words) c.deref-words.ensures in
    let behind = begins_behind g.P.Within.lens _ _ _ _ g.met.P.Within.is_lens
    (λ base. g.P.Within.begins base plan) _ (g.met.P.Within.is_first plan).1 engine.base in
    let first = ap (λ (o : Object g.row.P-Whole-Plan.Denot). o.base) c.deref-words.ensures in
    let summed : c.base.result + c.base-behind.result ≡ g.P.Within.begins engine.base plan =
    omega (arith, c.base.ensures, c.base-behind.ensures, first, behind) in
    let own : Plan = g.P.Within.own_plan plan in
    let is : own ≡ c.plan.result = sym c.plan.ensures in
    let sized = room.0.0 in
    let here : g.P.Within.begins engine.base plan
    + (first_place + (own.links + own.words) * own.nodes) ≤ engine.table.words =
    omega (arith, room.1, r.words, behind) in
    record {
      planned = ap (λ (o : Object g.row.P-Whole-Plan.Denot). g.P.Within.own_plan o.plan) clone
          ∙ ap g.P.Within.own_plan r.planned ∙ is;
      base = summed
          ∙ (ap (g.P.Within.begins engine.base) (sym r.planned)
          ∙ ap (λ (o : Object g.row.P-Whole-Plan.Denot). g.P.Within.begins o.base o.plan)
          (sym clone));
      room = subst (λ (y : Object g.row.P-Whole-Plan.Denot × Plan).
          g.P.Within.begins y.0.base y.0.plan
          + (first_place + (y.1.links + y.1.words) * y.1.nodes) ≤ y.0.table.words)
          (λ i. (sym clone i, is i))
          (subst (λ (q : g.row.P-Whole-Plan.Denot). g.P.Within.begins engine.base q
          + (first_place + (own.links + own.words) * own.nodes) ≤ engine.table.words)
          (sym r.planned) here);
      small = subst (λ (p : Plan). first_place + (p.links + p.words) * p.nodes < 2 ^ 64) is
          (omega (arith, room.1, r.words, c.fits.ensures, words));
      row = subst (λ (p : Plan). p.links + p.words < 2 ^ 64) is (omega (arith, sized.row));
      words = subst (λ (p : Plan). 0 < p.words) is sized.words;
      roots = subst (λ (p : Plan). p.roots ≤ p.nodes) is sized.inside;
    }

pub returns-clause-writer : goal.returns-clause-writer
returns-clause-writer g c =
    let clone = c.in_ok-try_clone.ensures in
    let plan = ap (λ (o : Object g.row.P-Whole-Plan.Denot). o.plan) clone ∙ c.requires.planned in
    joins g.P.Within.lens _ _ _ _ g.met.P.Within.is_lens g.P.Within.own_plan g.P.Within.begins
    (arc_value c.in_ok-try_clone.field-0) c.args.own.now c.hand_over-writer.result
    c.claim.new.seat (g.F.Shape.first _)
    (subst (λ (o : Object g.row.P-Whole-Plan.Denot).
    IsWatcherOf (engine_part g.P.Within.own_plan g.P.Within.begins o)
    (watcher_part g.P.Within.lens c.args.own.now))
    (sym clone) c.requires.of_engine)
    (c.requires.first ∙ ap (λ (q : g.row.P-Whole-Plan.Denot). of_plan (g.P.Within.own_plan q) Owner)
    (sym plan))
    c.hand_over-writer.ensures.new c.claim.ensures

pub returns-clause-new : goal.returns-clause-new
returns-clause-new g c =
    let clone = c.in_ok-try_clone.ensures in
    let plan = ap (λ (o : Object g.row.P-Whole-Plan.Denot). o.plan) clone ∙ c.requires.planned in
    joined_as g.P.Within.lens _ _ _ _ g.met.P.Within.is_lens g.P.Within.own_plan g.P.Within.begins
    c.args.own.now c.hand_over-writer.result c.claim.new.seat
    (g.F.Shape.first (g.P.Within.own_plan c.args.plan)) (g.P.Within.own_plan c.args.plan)
    c.requires.first c.hand_over-writer.ensures.new
    (subst (λ (q : g.row.P-Whole-Plan.Denot).
    let p : Plan = g.P.Within.own_plan q in
    c.claim.new.seat ≡ after_word_step c.hand_over-writer.result
    (g.P.Within.lens.set c.hand_over-writer.result.view.client
    (knowing (g.P.Within.lens.get c.hand_over-writer.result.view.client)
    (Writer 0 (first_nodes p.links p.words (g.F.Shape.first p) p.roots p.nodes) []))))
    plan c.claim.ensures)

pub returns-clause-claimed : goal.returns-clause-claimed
returns-clause-claimed g c =
    let clone = c.in_ok-try_clone.ensures in
    let plan = ap (λ (o : Object g.row.P-Whole-Plan.Denot). o.plan) clone ∙ c.requires.planned in
    let first = g.F.Shape.first (g.P.Within.own_plan c.args.plan) in
    ap (λ (w : Watching g.row.P-Whole-Known.Denot). g.P.Within.lens.get w.view.client)
    (joined_as g.P.Within.lens _ _ _ _ g.met.P.Within.is_lens g.P.Within.own_plan
    g.P.Within.begins c.args.own.now c.hand_over-writer.result c.claim.new.seat first
    (g.P.Within.own_plan c.args.plan) c.requires.first c.hand_over-writer.ensures.new
    (subst (λ (q : g.row.P-Whole-Plan.Denot).
    let p : Plan = g.P.Within.own_plan q in
    c.claim.new.seat ≡ after_word_step c.hand_over-writer.result
    (g.P.Within.lens.set c.hand_over-writer.result.view.client
    (knowing (g.P.Within.lens.get c.hand_over-writer.result.view.client)
    (Writer 0 (first_nodes p.links p.words (g.F.Shape.first p) p.roots p.nodes) []))))
    plan c.claim.ensures))
    ∙ g.met.P.Within.is_lens.got _ _
