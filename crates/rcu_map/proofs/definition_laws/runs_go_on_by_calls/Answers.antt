use Rattle.rcu_graph.specs.Nodes.{nodes_in}
use Rattle.rcu_map.specs.Runs.{begun, changed, looked}
use Rattle.rcu_map.proofs.Runs.{has_at_end, put_is_there}
use Rattle.rcu_map.proofs.definition_laws.runs_go_on_by_calls.Goals as goal

pub returns-clause-begun : goal.returns-clause-begun
returns-clause-begun g c = λ plan opened now map. begun now map

pub returns-clause-changed : goal.returns-clause-changed
returns-clause-changed g c = λ plan opened words there before now run has map.
    changed before now run has.by map

pub returns-clause-looked : goal.returns-clause-looked
returns-clause-looked g c = λ plan opened number before now run opens is map.
    looked before now number run opens is map

pub returns-clause-put : goal.returns-clause-put
returns-clause-put g c = λ plan words there before now has. put_is_there plan.roots words there
    (nodes_in before.view.client.known) (nodes_in now.view.client.known) has.nodes

pub returns-clause-throughout : goal.returns-clause-throughout
returns-clause-throughout g c = λ plan opened key now run has.
    has_at_end g.E.Invariant.holds plan opened key now run has
