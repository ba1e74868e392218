use Rattle.rcu_graph.proofs.SmallMoments.{small_not_back, small_not_before, small_not_chain}
use Rattle.rcu_graph.proofs.SmallMoments.{small_not_later, small_not_on, small_not_writer}
use Rattle.rcu_graph.proofs.definition_laws.a_run_has_no_other_moves.Goals as goal

pub returns-clause-not_before : goal.returns-clause-not_before
returns-clause-not_before c = small_not_before

pub returns-clause-not_back : goal.returns-clause-not_back
returns-clause-not_back c = small_not_back

pub returns-clause-not_on_chain : goal.returns-clause-not_on_chain
returns-clause-not_on_chain c = small_not_on

pub returns-clause-not_writer : goal.returns-clause-not_writer
returns-clause-not_writer c = small_not_writer

pub returns-clause-not_later : goal.returns-clause-not_later
returns-clause-not_later c = small_not_later

pub returns-clause-not_chain : goal.returns-clause-not_chain
returns-clause-not_chain c = small_not_chain
