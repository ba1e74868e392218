use Rattle.rcu_core.proofs.Readers.{idle_is_closed}
use Rattle.rcu_core.proofs.laws.idle_processors_have_no_section.Goals as goal

pub returns : goal.returns
returns c = idle_is_closed
