use Rattle.std.proofs.Common.{arith}
use Rattle.rcu_request.proofs.Keeping.{true_or_false}
use Rattle.rcu_request.proofs.Steps.{first_is_kept}
use Rattle.rcu_request.proofs.definition_laws.no_moment_has_lost_a_request.Goals as goal

pub returns-clause-opened : goal.returns-clause-opened
returns-clause-opened c = first_is_kept

pub returns-clause-lost : goal.returns-clause-lost
returns-clause-lost c =
    λ s id v at more k. let low = (k.fits id v at).raised in absurd (omega (arith, low, more))

pub returns-clause-from_nowhere : goal.returns-clause-from_nowhere
returns-clause-from_nowhere c = λ s none k. none k.made.by k.made.knows k.made.here k.made.is

pub returns-clause-slept_through : goal.returns-clause-slept_through
returns-clause-slept_through c =
    λ s i j driver thread here there drives asleep looked not_drives tlooked less awake k.
    true_or_false thread.asleep
    (k.told i j driver thread here there drives asleep looked not_drives tlooked less) awake

pub returns-clause-misled : goal.returns-clause-misled
returns-clause-misled c =
    λ s id driver at drives other k. other ((k.fits id driver at).names drives)
