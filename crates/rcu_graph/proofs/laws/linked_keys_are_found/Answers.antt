use Rattle.rcu_graph.proofs.Hindsight.{not_absent}
use Rattle.rcu_graph.proofs.laws.linked_keys_are_found.Goals as goal

pub returns : goal.returns
returns c = λ ours opened root key last nodes was now found search history linked made.
    not_absent ours opened root key last nodes history linked was now found search made
