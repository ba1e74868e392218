use Rattle.rcu_request.proofs.Keeping.{woken}
use Rattle.rcu_request.proofs.laws.no_request_is_slept_through.Goals as goal

pub returns : goal.returns
returns c =
    λ s id driver k at drives asleep looked under. woken s id driver k at drives asleep looked under
