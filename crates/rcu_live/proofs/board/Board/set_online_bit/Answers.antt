use Rattle.std.proofs.Common.{rules}
use Rattle.rcu_live.proofs.Moments.{sets_bit_both}
use Rattle.rcu_live.proofs.board.Board.set_online_bit.Goals as goal

pub fetch_or-requires : goal.fetch_or-requires
fetch_or-requires g c = (
  search rules,
  search rules,
  sets_bit_both (g.P.Client.holds _) _ _ _ _ _ _ _ c.requires.role c.requires.own
      c.mask_index.ensures (search rules),
)
