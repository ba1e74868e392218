use Rattle.rcu_graph.proofs.Beside.{words_over}
use Rattle.rcu_graph.proofs.laws.words_found_over_a_run_were_linked.Goals as goal

pub returns : goal.returns
returns g c = λ plan ours root key writer seat opened last node moments words chain kept walks on
    search held.
    words_over g.F.Shape.fits g.F.Shape.joins g.F.Shape.first plan ours root key writer seat opened
    last moments chain kept walks on node words search held
