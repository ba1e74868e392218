use Rattle.std.specs.Prelude.{map}
use Rattle.atomic_table.proofs.Lists.{at_map}
use Rattle.rcu_graph.specs.Planned.{of_plan, unplanned}
use Rattle.rcu_graph.specs.declared.known.Known.TheVariants.{Writer}
use Rattle.rcu_graph.proofs.HeldNodes.{chains}
use Rattle.rcu_graph.proofs.laws.chains_go_up.Goals as goal

pub returns : goal.returns
returns g c = λ plan ours root table xs writer latest who own nodes stored h kept.
    chains (g.F.Shape.fits plan) (g.F.Shape.joins plan) (g.F.Shape.first plan) plan.roots plan.links
    plan.words plan.nodes ours root table (map unplanned xs) writer latest who own nodes
    stored h.kept
    (at_map unplanned xs writer (who, own, of_plan plan (Writer latest nodes stored)) kept)
