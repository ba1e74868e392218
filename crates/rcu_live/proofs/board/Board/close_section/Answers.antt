use Rattle.std.proofs.Common.{rules}
use Rattle.rcu_live.proofs.Loads.{closes}
use Rattle.rcu_live.proofs.Moments.{closes_both}
use Rattle.rcu_live.proofs.board.Board.close_section.Goals as goal

pub load-requires : goal.load-requires
load-requires g c = (
  search rules,
  search rules,
  closes_both (g.P.Client.holds _) _ _ _ _ _
      (closes (g.P.Client.holds _) _ _ (g.met.P.Client.stable _) _ _ _ _),
)
