use Rattle.rcu_graph.proofs.SmallRuns.{small_history, small_linked, small_linked_then}
use Rattle.rcu_graph.proofs.SmallRuns.{small_not_aside, small_search}
use Rattle.rcu_graph.proofs.definition_laws.a_search_may_go_on_beside_its_writer.Goals as goal

pub returns-clause-history : goal.returns-clause-history
returns-clause-history c = small_history

pub returns-clause-linked : goal.returns-clause-linked
returns-clause-linked c = small_linked

pub returns-clause-later : goal.returns-clause-later
returns-clause-later c = small_linked_then

pub returns-clause-not_aside : goal.returns-clause-not_aside
returns-clause-not_aside c = small_not_aside

pub returns-clause-searched : goal.returns-clause-searched
returns-clause-searched c = small_search
