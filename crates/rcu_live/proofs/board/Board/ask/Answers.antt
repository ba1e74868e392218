use Rattle.std.proofs.Common.{arith, rules}
use Rattle.rcu_live.proofs.Moments.{asks}
use Rattle.rcu_live.proofs.board.Board.ask.Goals as goal

pub swap_new_seat-asked-requires : goal.swap_new_seat-asked-requires
swap_new_seat-asked-requires g c = (
  omega (arith, c.self.invariant.room),
  asks (g.P.Client.holds _) _ _ (g.met.P.Client.stable _) _ _ c.args.cpu _ (search rules),
)
