use Rattle.rcu_graph.proofs.Beside.{history_over}
use Rattle.rcu_graph.proofs.laws.runs_are_histories.Goals as goal

pub returns : goal.returns
returns g c = λ plan ours root writer seat opened last moments chain kept walks on.
    history_over g.F.Shape.fits g.F.Shape.joins g.F.Shape.first plan ours root writer seat opened
    last moments chain kept walks on
