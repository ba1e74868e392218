use Rattle.std.proofs.Common.{rules, subst, sym}
use Rattle.rcu_live.specs.Board.{Object}
use Rattle.rcu_live.specs.Rule.{AreCleared}
use Rattle.rcu_live.proofs.Turns.{ends_at}
use Rattle.rcu_live.proofs.Moments.{ends_both}
use Rattle.rcu_live.proofs.board.Board.end.Goals as goal

pub store-requires : goal.store-requires
store-requires g c =
    let r = c.requires.allowed in
    let v = c.args.seat.now.me.0 in
    let cleared = subst (λ (o : Object g.row.P-Plan.Denot). AreCleared o.cpus v.seen
    v.own_word_loads)
    (sym c.self.view_is) r.cleared in (
      search rules,
      search rules,
      ends_both (g.P.Client.holds _) _ _ _ _ _
          (ends_at (g.P.Client.holds _) _ _ _ _ _ _ r.engine r.running c.self.invariant.key cleared
          r.next),
    )
