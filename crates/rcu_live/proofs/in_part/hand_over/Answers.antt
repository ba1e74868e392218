use Rattle.std.proofs.Common.{refl, rules}
use Rattle.rcu_live.proofs.ClientSteps.{hands_part_over}
use Rattle.rcu_live.proofs.Askings.{alike}
use Rattle.rcu_live.proofs.Moments.{splits}
use Rattle.rcu_live.proofs.in_part.hand_over.Goals as goal

pub split_seat-requires : goal.split_seat-requires
split_seat-requires g c = (
  search rules,
  search rules,
  splits _ _ _ _ _ _
      (hands_part_over _ g.P.Within.lens _ _ _ _ _ (g.met.P.Within.is_part _) _ _ _
      c.seat.invariant.role)
      (alike _ _ refl refl refl refl) (λ r. absurd (cc)) refl,
)
