use Rattle.std.proofs.Common.{rules}
use Rattle.rcu_live.proofs.Loads.{loads}
use Rattle.rcu_live.proofs.Moments.{loads_both}
use Rattle.rcu_live.proofs.board.Board.load.Goals as goal

pub load-requires : goal.load-requires
load-requires g c = (
  search rules,
  search rules,
  loads_both (g.P.Client.holds _) _ _ _ _
      (loads (g.P.Client.holds _) _ _ _ _),
)
