use Rattle.std.proofs.Common.{inl, inr, refl}
use Rattle.rcu_live.proofs.QuietSeats.{not_by_earlier}
use Rattle.rcu_live.proofs.definition_laws.a_processor_is_quiet_by_its_latest_store.Goals as goal

pub returns-clause-departed : goal.returns-clause-departed
returns-clause-departed g c = λ seat t. inl refl

pub returns-clause-idle : goal.returns-clause-idle
returns-clause-idle g c = λ seat t. inr (inl refl)

pub returns-clause-quiescent : goal.returns-clause-quiescent
returns-clause-quiescent g c = λ seat t n l. inr (inr (n, l, refl))

pub returns-clause-earlier : goal.returns-clause-earlier
returns-clause-earlier g c = λ seat t n l b q. not_by_earlier t n l b q
