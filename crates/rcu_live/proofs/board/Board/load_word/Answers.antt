use Rattle.std.proofs.Common.{Some, ◌<◌, rules, subst, sym}
use Rattle.rcu_live.specs.Board.{Object}
use Rattle.rcu_live.specs.Client.{AllowsAt}
use Rattle.rcu_live.specs.View.{if_cpu}
use Rattle.rcu_live.proofs.ClientSteps.{steps_on_word}
use Rattle.rcu_live.proofs.Moments.{words_both}
use Rattle.rcu_live.proofs.board.Board.load_word.Goals as goal

pub load-requires : goal.load-requires
load-requires g c =
    let v = c.args.seat.now.me.0 in
    let i = c.args.index in
    let allowed = subst (λ (o : Object g.row.P-Plan.Denot).
    AllowsAt (g.P.Client.holds o.plan) (if_cpu v.role (Some v.cpu)) (if_cpu v.role v.section)
    v.client o.base i (λ n. n) (λ p. g.M.WordStep.then p v.client))
    (sym c.self.view_is) c.requires.allowed in (
      search rules,
      subst (λ (o : Object g.row.P-Plan.Denot). i < o.table.words) (sym c.self.view_is)
          c.requires.inside,
      words_both (g.P.Client.holds _) _ _ _ _ _ _ _ (λ n. n) g.M.WordStep.then allowed.1
          (steps_on_word (g.P.Client.holds _) _ _ _ _ _ _ _ (λ n. n) g.M.WordStep.then
          c.self.invariant.key
          c.self.invariant.some allowed.1 allowed.2),
    )
