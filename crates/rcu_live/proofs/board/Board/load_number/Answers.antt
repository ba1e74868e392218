use Rattle.std.proofs.Common.{Some, rules, subst, sym}
use Rattle.rcu_live.specs.Board.{Object}
use Rattle.rcu_live.specs.Client.{AllowsNumber}
use Rattle.rcu_live.specs.View.{if_cpu}
use Rattle.rcu_live.proofs.ClientSteps.{steps_on_number}
use Rattle.rcu_live.proofs.Moments.{looks_both}
use Rattle.rcu_live.proofs.board.Board.load_number.Goals as goal

pub load-requires : goal.load-requires
load-requires g c =
    let v = c.args.seat.now.me.0 in
    let allowed = subst (λ (o : Object g.row.P-Plan.Denot).
    AllowsNumber (g.P.Client.holds o.plan) (if_cpu v.role (Some v.cpu)) (if_cpu v.role v.section)
    v.client (g.M.NumberStep.then v.client))
    (sym c.self.view_is) c.requires.allowed in (
      search rules,
      search rules,
      looks_both (g.P.Client.holds _) _ _ _ _ g.M.NumberStep.then
          (steps_on_number (g.P.Client.holds _) _ _ _ _ g.M.NumberStep.then allowed),
    )
