use Rattle.std.specs.Prelude.{map}
use Rattle.atomic_table.proofs.Lists.{at_map}
use Rattle.rcu_graph.specs.Planned.{of_plan, unplanned}
use Rattle.rcu_graph.specs.declared.known.Known.TheVariants.{Writer}
use Rattle.rcu_graph.proofs.HeldNodes.{as_known}
use Rattle.rcu_graph.proofs.laws.held_nodes_are_as_known.Goals as goal

pub returns : goal.returns
returns g c = λ plan table xs writer seat node latest who own cpu section nodes stored known
    words v h kept at.
    as_known (g.F.Shape.fits plan) (g.F.Shape.joins plan) (g.F.Shape.first plan) plan.roots
    plan.links
    plan.words plan.nodes table (map unplanned xs) writer seat node latest who own cpu section
    nodes stored known.known words
    v h.kept (at_map unplanned xs writer (who, own, of_plan plan (Writer latest nodes stored)) kept)
    (at_map unplanned xs seat (cpu, section, known) at)
