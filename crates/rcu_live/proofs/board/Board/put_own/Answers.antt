use Rattle.std.proofs.Common.{rules}
use Rattle.rcu_live.proofs.Stores.{stores}
use Rattle.rcu_live.proofs.Moments.{stores_both}
use Rattle.rcu_live.proofs.board.Board.put_own.Goals as goal

pub store-requires : goal.store-requires
store-requires g c =
    let r = c.requires.allowed in (
      search rules,
      search rules,
      stores_both (g.P.Client.holds _) _ _ _ _ _ _ _ c.own_word_index.ensures r.role
          (stores (g.P.Client.holds _) _ _ _ _ _ _ _ r.role r.own c.own_word_index.ensures r.shut
          r.bounded
          r.boot
          r.still),
    )
