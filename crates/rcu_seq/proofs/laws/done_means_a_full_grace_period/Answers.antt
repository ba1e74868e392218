use Rattle.rcu_seq.proofs.Fulls.{done_is_full}
use Rattle.rcu_seq.proofs.laws.done_means_a_full_grace_period.Goals as goal

pub returns : goal.returns
returns c = done_is_full
