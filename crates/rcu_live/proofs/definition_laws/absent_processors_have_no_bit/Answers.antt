use Rattle.rcu_live.proofs.OnlineMasks.{absent, absent_inside, next_has_bit, share_mask}
use Rattle.rcu_live.proofs.definition_laws.absent_processors_have_no_bit.Goals as goal

pub returns-clause-mask : goal.returns-clause-mask
returns-clause-mask c = share_mask

pub returns-clause-bit : goal.returns-clause-bit
returns-clause-bit c = λ mask cpu cpus other fits far less.
    (absent mask cpu cpus other fits far less).none

pub returns-clause-inside : goal.returns-clause-inside
returns-clause-inside c = absent_inside

pub returns-clause-next : goal.returns-clause-next
returns-clause-next c = next_has_bit
