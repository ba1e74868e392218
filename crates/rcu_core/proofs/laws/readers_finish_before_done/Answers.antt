use Rattle.rcu_core.proofs.Readers.{done_is_ended}
use Rattle.rcu_core.proofs.laws.readers_finish_before_done.Goals as goal

pub returns : goal.returns
returns c = done_is_ended
