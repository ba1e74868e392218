use Rattle.rcu_graph.proofs.Hindsight.{was_linked}
use Rattle.rcu_graph.proofs.laws.found_keys_were_linked.Goals as goal

pub returns : goal.returns
returns c = λ ours opened root key last nodes was now node search history made.
    was_linked ours opened root last nodes history key was now node search made
