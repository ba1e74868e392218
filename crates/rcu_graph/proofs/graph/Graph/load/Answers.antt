use Rattle.std.proofs.Common.{◌∙◌, Some, ap, subst, sym}
use Rattle.rcu_live.specs.Board.{Object}
use Rattle.rcu_live.specs.Client.{AllowsWord}
use Rattle.rcu_graph.specs.Planned.{IsKeptBy}
use Rattle.rcu_graph.specs.declared.plan.Plan.{Plan}
use Rattle.rcu_graph.proofs.graph.Graph.load.Goals as goal

pub load_word-requires-clause-allowed : goal.load_word-requires-clause-allowed
load_word-requires-clause-allowed g c =
    let s = c.args.seat.now in
    let known = g.P.Within.lens.get s.view.client in
    subst (λ (plan : Plan).
    AllowsWord (IsKeptBy g.F.Shape.fits g.F.Shape.joins g.F.Shape.first plan) (Some s.cpu)
    s.view.section
    known c.args.place (λ n. n) (g.M.WordStep.then c.args.place known))
    (sym (ap (λ (o : Object g.row.P-Whole-Plan.Denot). g.P.Within.own_plan o.plan) c.deref.ensures
    ∙ ap (λ (o : Object Plan). o.plan) c.self.view_is))
    c.requires.allowed
