use Rattle.std.proofs.Common.{rules}
use Rattle.rcu_live.proofs.Loads.{opens}
use Rattle.rcu_live.proofs.Moments.{opens_both}
use Rattle.rcu_live.proofs.board.Board.open_section.Goals as goal

pub load-requires : goal.load-requires
load-requires g c = (
  search rules,
  search rules,
  opens_both (g.P.Client.holds _) _ _ _ _
      (opens (g.P.Client.holds _) _ _ (g.met.P.Client.stable _) _ _ _ _ c.requires.allowed.cpu
      c.requires.allowed.online c.requires.allowed.shut),
)
