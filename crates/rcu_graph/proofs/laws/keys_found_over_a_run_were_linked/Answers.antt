use Rattle.rcu_graph.proofs.Beside.{linked_over}
use Rattle.rcu_graph.proofs.laws.keys_found_over_a_run_were_linked.Goals as goal

pub returns : goal.returns
returns g c = λ plan ours root key writer seat opened last node moments chain kept walks on search.
    linked_over g.F.Shape.fits g.F.Shape.joins g.F.Shape.first plan ours root key writer seat opened
    last moments chain kept walks on node search
