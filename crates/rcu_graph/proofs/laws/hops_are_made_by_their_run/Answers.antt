use Rattle.std.proofs.Common.{arith}
use Rattle.rcu_graph.proofs.Beside.{made_over}
use Rattle.rcu_graph.proofs.laws.hops_are_made_by_their_run.Goals as goal

pub returns : goal.returns
returns g c = λ plan writer seat opened last moments kept walks.
    made_over g.F.Shape.fits g.F.Shape.joins g.F.Shape.first plan writer seat opened last moments
    kept walks last (omega arith)
