use Rattle.rcu_core.proofs.Sections.{old_after_begin}
use Rattle.rcu_core.proofs.definition_laws.a_section_open_at_a_begin_is_old.Goals as goal

pub returns : goal.returns
returns c = old_after_begin
