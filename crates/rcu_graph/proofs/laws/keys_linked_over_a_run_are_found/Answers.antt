use Rattle.rcu_graph.proofs.Beside.{found_over}
use Rattle.rcu_graph.proofs.laws.keys_linked_over_a_run_are_found.Goals as goal

pub returns : goal.returns
returns g c = λ plan ours root key writer seat opened last moments found chain kept walks on search
    all.
    found_over g.F.Shape.fits g.F.Shape.joins g.F.Shape.first plan ours root key writer seat opened
    last moments chain kept walks on found search all
