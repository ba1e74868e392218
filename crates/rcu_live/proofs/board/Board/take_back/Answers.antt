use Rattle.std.proofs.Common.{arith, rules}
use Rattle.rcu_live.proofs.Moments.{takes_back}
use Rattle.rcu_live.proofs.board.Board.take_back.Goals as goal

pub swap-asked-requires : goal.swap-asked-requires
swap-asked-requires g c = (
  search rules,
  omega (arith, c.self.invariant.room),
  takes_back (g.P.Client.holds _) _ _ _ _,
)
