use Rattle.std.proofs.Common.{inl, refl}
use Rattle.rcu_core.proofs.Longer.{led_there, led_unrefused}
use Rattle.rcu_core.proofs.progress.what_surely_leads_on_leads_a_core.Goals as goal

pub returns-clause-legal : goal.returns-clause-legal
returns-clause-legal c = λ size h event. inl refl

pub returns-clause-has : goal.returns-clause-has
returns-clause-has c = led_there

pub returns-clause-none_refused : goal.returns-clause-none_refused
returns-clause-none_refused c = led_unrefused
