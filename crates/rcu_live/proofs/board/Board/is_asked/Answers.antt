use Rattle.std.proofs.Common.{arith, rules}
use Rattle.rcu_live.proofs.Moments.{looks_at_asked}
use Rattle.rcu_live.proofs.board.Board.is_asked.Goals as goal

pub load-asked-requires : goal.load-asked-requires
load-asked-requires g c = (
  search rules,
  omega (arith, c.self.invariant.room),
  looks_at_asked (g.P.Client.holds _) _ _ _ _ c.requires.role,
)
