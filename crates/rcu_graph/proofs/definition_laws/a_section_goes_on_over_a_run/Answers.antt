use Rattle.rcu_graph.proofs.SmallMoments.{small_chain, small_kept_on, small_nodes_at, small_open}
use Rattle.rcu_graph.proofs.definition_laws.a_section_goes_on_over_a_run.Goals as goal

pub returns-clause-kept : goal.returns-clause-kept
returns-clause-kept c = small_kept_on

pub returns-clause-walks : goal.returns-clause-walks
returns-clause-walks c = small_open

pub returns-clause-chain : goal.returns-clause-chain
returns-clause-chain c = small_chain

pub returns-clause-nodes : goal.returns-clause-nodes
returns-clause-nodes c = small_nodes_at
