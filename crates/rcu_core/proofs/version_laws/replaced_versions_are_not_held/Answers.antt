use Rattle.rcu_core.proofs.Held.{not_held}
use Rattle.rcu_core.proofs.version_laws.replaced_versions_are_not_held.Goals as goal

pub returns : goal.returns
returns c = not_held c.readers_finish_before_done.ensures
