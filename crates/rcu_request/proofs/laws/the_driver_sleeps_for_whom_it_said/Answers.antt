use Rattle.rcu_request.proofs.laws.the_driver_sleeps_for_whom_it_said.Goals as goal

pub returns : goal.returns
returns c = λ s id driver k at drives. (k.fits id driver at).names drives
