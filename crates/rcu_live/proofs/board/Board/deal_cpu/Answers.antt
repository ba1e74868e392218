use Rattle.std.proofs.Common.{refl, rules}
use Rattle.rcu_live.proofs.Deals.{deals_cpu}
use Rattle.rcu_live.proofs.Askings.{alike_dealt}
use Rattle.rcu_live.proofs.Moments.{splits}
use Rattle.rcu_live.proofs.board.Board.deal_cpu.Goals as goal

pub split_seat-requires : goal.split_seat-requires
split_seat-requires g c = (
  search rules,
  search rules,
  splits (g.P.Client.holds _) _ _ _ _ _
      (deals_cpu (g.P.Client.holds _) _ _ (g.met.P.Client.stable _) _ _ _ c.requires.engine
      (search rules))
      (alike_dealt _ c.requires.engine) (λ r. absurd (cc)) refl,
)
