use Rattle.std.proofs.Common.{rules}
use Rattle.rcu_live.proofs.Moments.{clears_bit_both}
use Rattle.rcu_live.proofs.board.Board.clear_online_bit.Goals as goal

pub fetch_and-requires : goal.fetch_and-requires
fetch_and-requires g c = (
  search rules,
  search rules,
  clears_bit_both (g.P.Client.holds _) _ _ _ _ _ _ _ c.requires.role c.requires.own
      c.requires.offline c.requires.settled c.mask_index.ensures (search rules),
)
