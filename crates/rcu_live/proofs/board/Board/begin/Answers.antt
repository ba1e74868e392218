use Rattle.std.proofs.Common.{rules}
use Rattle.rcu_live.proofs.Turns.{begins_at}
use Rattle.rcu_live.proofs.Moments.{begins_both}
use Rattle.rcu_live.proofs.board.Board.begin.Goals as goal

pub store-requires : goal.store-requires
store-requires g c =
    let r = c.requires.allowed in (
      search rules,
      search rules,
      begins_both (g.P.Client.holds _) _ _ _ _ _
          (begins_at (g.P.Client.holds _) _ _ _ _ _ r.engine r.idle r.next r.bounded),
    )
