use Rattle.rcu_core.proofs.Sections.{ended_by_exit, kept_by_enter, kept_by_exit, kept_by_others}
use Rattle.rcu_core.proofs.Sections.{opened_by_enter}
use Rattle.rcu_core.proofs.definition_laws.a_section_goes_from_its_enter_to_its_exit.Goals as goal

pub returns-clause-opened : goal.returns-clause-opened
returns-clause-opened c = opened_by_enter

pub returns-clause-nested : goal.returns-clause-nested
returns-clause-nested c = kept_by_enter

pub returns-clause-left : goal.returns-clause-left
returns-clause-left c = kept_by_exit

pub returns-clause-ended : goal.returns-clause-ended
returns-clause-ended c = ended_by_exit

pub returns-clause-kept : goal.returns-clause-kept
returns-clause-kept c = kept_by_others
