use Rattle.std.proofs.Common.{rules}
use Rattle.rcu_live.proofs.OwnWordLoads.{loads_own_word_at}
use Rattle.rcu_live.proofs.Moments.{own_loads_both}
use Rattle.rcu_live.proofs.board.Board.load_own.Goals as goal

pub load-requires : goal.load-requires
load-requires g c = (
  search rules,
  search rules,
  own_loads_both (g.P.Client.holds _) _ _ _ _ _ _ c.own_word_index.ensures
      (loads_own_word_at (g.P.Client.holds _) _ _ _ _ _ _ c.requires.engine
      c.own_word_index.ensures),
)
