use Rattle.rcu_map.proofs.SmallCalls.{run_is}
use Rattle.rcu_map.proofs.SmallMap.{no_map_between}
use Rattle.rcu_map.proofs.SmallMoments.{map_over, not_later, not_writer}
use Rattle.rcu_map.proofs.SmallReads.{read_over}
use Rattle.rcu_map.proofs.definition_laws.a_map_changes_beside_a_section.Goals as goal

pub returns-clause-map : goal.returns-clause-map
returns-clause-map c = map_over

pub returns-clause-reads : goal.returns-clause-reads
returns-clause-reads c = read_over

pub returns-clause-run : goal.returns-clause-run
returns-clause-run c = run_is

pub returns-clause-not_writer : goal.returns-clause-not_writer
returns-clause-not_writer c = not_writer

pub returns-clause-not_later : goal.returns-clause-not_later
returns-clause-not_later c = not_later

pub returns-clause-no_map : goal.returns-clause-no_map
returns-clause-no_map c = no_map_between
