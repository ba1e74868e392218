use Rattle.std.specs.Prelude.{map}
use Rattle.atomic_table.proofs.Lists.{at_map}
use Rattle.rcu_graph.specs.Planned.{of_plan, unplanned}
use Rattle.rcu_graph.specs.declared.known.Known.TheVariants.{Writer}
use Rattle.rcu_graph.proofs.HeldNodes.{live_leads}
use Rattle.rcu_graph.proofs.laws.live_nodes_lead_to_live_nodes.Goals as goal

pub returns : goal.returns
returns g c = λ plan table xs writer node link next latest who own nodes stored v h kept.
    live_leads (g.F.Shape.fits plan) (g.F.Shape.joins plan) (g.F.Shape.first plan) plan.roots
    plan.links
    plan.words plan.nodes table (map unplanned xs) writer node link next latest who own nodes
    stored v h.kept
    (at_map unplanned xs writer (who, own, of_plan plan (Writer latest nodes stored)) kept)
