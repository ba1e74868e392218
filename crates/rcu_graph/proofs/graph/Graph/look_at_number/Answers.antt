use Rattle.std.proofs.Common.{◌∙◌, None, ap, subst, sym}
use Rattle.rcu_live.specs.Board.{Object}
use Rattle.rcu_live.specs.Client.{AllowsNumber}
use Rattle.rcu_graph.specs.Planned.{IsKeptBy}
use Rattle.rcu_graph.specs.declared.plan.Plan.{Plan}
use Rattle.rcu_graph.proofs.graph.Graph.look_at_number.Goals as goal

pub load_number-requires-clause-allowed : goal.load_number-requires-clause-allowed
load_number-requires-clause-allowed g c =
    let known = g.P.Within.lens.get c.args.seat.now.view.client in
    subst (λ (plan : Plan).
    AllowsNumber (IsKeptBy g.F.Shape.fits g.F.Shape.joins g.F.Shape.first plan) None None known
    (g.M.NumberStep.then known))
    (sym (ap (λ (o : Object g.row.P-Whole-Plan.Denot). g.P.Within.own_plan o.plan) c.deref.ensures
    ∙ ap (λ (o : Object Plan). o.plan) c.self.view_is))
    c.requires.allowed
