use Rattle.std.proofs.Common.{refl, rules}
use Rattle.rcu_live.proofs.ClientSteps.{hands_over}
use Rattle.rcu_live.proofs.Askings.{alike}
use Rattle.rcu_live.proofs.Moments.{splits}
use Rattle.rcu_live.proofs.board.Board.hand_over.Goals as goal

pub split_seat-requires : goal.split_seat-requires
split_seat-requires g c = (
  search rules,
  search rules,
  splits (g.P.Client.holds _) _ _ _ _ _
      (hands_over (g.P.Client.holds _) _ _ (g.met.P.Client.stable _) _ _ _ c.requires.engine)
      (alike _ _ refl refl refl refl) (λ r. absurd (cc)) refl,
)
