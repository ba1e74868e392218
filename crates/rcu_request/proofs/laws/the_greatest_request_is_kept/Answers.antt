use Rattle.rcu_request.proofs.laws.the_greatest_request_is_kept.Goals as goal

pub returns-clause-least : goal.returns-clause-least
returns-clause-least c = λ s id v k at. (k.fits id v at).raised

pub returns-clause-made : goal.returns-clause-made
returns-clause-made c = λ s k. (k.made.by, k.made.knows, k.made.here, k.made.is)
