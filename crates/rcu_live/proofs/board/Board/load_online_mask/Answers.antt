use Rattle.std.proofs.Common.{rules}
use Rattle.rcu_live.proofs.OnlineMasks.{loads_online_mask}
use Rattle.rcu_live.proofs.Moments.{loads_mask_both}
use Rattle.rcu_live.proofs.board.Board.load_online_mask.Goals as goal

pub load-requires : goal.load-requires
load-requires g c = (
  search rules,
  search rules,
  loads_mask_both (g.P.Client.holds _) _ _ _ _ _ _ c.mask_index.ensures
      (loads_online_mask (g.P.Client.holds _) _ _ _ _ _ _ _ c.requires.engine c.self.invariant.key
      (search rules) (search rules) c.requires.next c.mask_index.ensures),
)
