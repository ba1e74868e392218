use Rattle.rcu_live.proofs.Driving.{one_ends, two_finish}
use Rattle.rcu_live.proofs.progress.two_steps_of_driving_finish_a_cookie.Goals as goal

pub returns-clause-one : goal.returns-clause-one
returns-clause-one g c = one_ends

pub returns-clause-two : goal.returns-clause-two
returns-clause-two g c = two_finish
