use Rattle.rcu_map.proofs.Openings.{opened_is_sized}
use Rattle.rcu_map.proofs.opening.Map+E+W.open.Goals as goal

pub returns-clause-bad_sizes : goal.returns-clause-bad_sizes
returns-clause-bad_sizes g c = (
  λ is. absurd (opened_is_sized _ _ is),
  λ unsized. absurd (opened_is_sized _ _ (c.in_ok-opened.ensures.bad_sizes.1 unsized)),
)
