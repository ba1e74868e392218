use Rattle.rcu_map.proofs.SmallReads.{not_none}
use Rattle.rcu_map.proofs.SmallReads.{got_6, got_none, held_6, not_yet, searched_3, searched_6}
use Rattle.rcu_map.proofs.definition_laws.a_section_finds_entries.Goals as goal

pub returns-clause-stays : goal.returns-clause-stays
returns-clause-stays c = searched_3

pub returns-clause-searched : goal.returns-clause-searched
returns-clause-searched c = searched_6

pub returns-clause-held : goal.returns-clause-held
returns-clause-held c = held_6

pub returns-clause-got : goal.returns-clause-got
returns-clause-got c = got_6

pub returns-clause-got_none : goal.returns-clause-got_none
returns-clause-got_none c = got_none

pub returns-clause-not_yet : goal.returns-clause-not_yet
returns-clause-not_yet c = not_yet

pub returns-clause-not_none : goal.returns-clause-not_none
returns-clause-not_none c = not_none
