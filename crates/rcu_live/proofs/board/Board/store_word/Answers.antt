use Rattle.std.proofs.Common.{Some, ◌<◌, rules, subst, sym}
use Rattle.rcu_live.specs.Board.{Object}
use Rattle.rcu_live.specs.Client.{AllowsAt}
use Rattle.rcu_live.specs.View.{if_cpu}
use Rattle.rcu_live.proofs.ClientSteps.{stores_client_word}
use Rattle.rcu_live.proofs.Moments.{word_stores_both}
use Rattle.rcu_live.proofs.board.Board.store_word.Goals as goal

pub store-requires : goal.store-requires
store-requires g c =
    let v = c.args.seat.now.me.0 in
    let i = c.args.index in
    let allowed = subst (λ (o : Object g.row.P-Plan.Denot).
    AllowsAt (g.P.Client.holds o.plan) (if_cpu v.role (Some v.cpu)) (if_cpu v.role v.section)
    v.client o.base i (λ _. c.args.value) (λ p _. g.M.WordStep.then p v.client c.args.value))
    (sym c.self.view_is) c.requires.allowed in (
      search rules,
      subst (λ (o : Object g.row.P-Plan.Denot). i < o.table.words) (sym c.self.view_is)
          c.requires.inside,
      word_stores_both (g.P.Client.holds _) _ _ _ _ _ _ _ _ g.M.WordStep.then allowed.1
          (stores_client_word (g.P.Client.holds _) _ _ _ _ _ _ _ _ g.M.WordStep.then
          c.self.invariant.key c.self.invariant.some allowed.1 allowed.2),
    )
