use Rattle.std.specs.Prelude.{map}
use Rattle.std.proofs.Common.{subst}
use Rattle.std.proofs.lemmas.List.{map-set}
use Rattle.atomic_table.proofs.Lists.{at_map}
use Rattle.rcu_graph.specs.Planned.{of_plan, unplanned}
use Rattle.rcu_graph.specs.Rule.{IsKept}
use Rattle.rcu_graph.specs.Steps.{IsFollowed}
use Rattle.rcu_graph.specs.declared.known.Known.TheVariants.{Writer}
use Rattle.rcu_graph.specs.declared.plan.Plan.{Plan}
use Rattle.rcu_graph.proofs.HeldNodes.{hop_true}
use Rattle.rcu_graph.proofs.Planned.{told_at}
use Rattle.rcu_graph.proofs.laws.hops_are_true_of_the_nodes.Goals as goal

pub returns : goal.returns
returns g c = λ plan table xs writer seat node link latest who own cpu section nodes stored
    was now words h k kept
    at reads on low told.
    hop_true (g.F.Shape.fits plan) (g.F.Shape.joins plan) (g.F.Shape.first plan) plan.roots
    plan.links
    plan.words plan.nodes table (map unplanned xs) writer seat node link latest who own cpu
    section nodes stored was.known
    now.known words h.kept
    (subst (IsKept (g.F.Shape.fits plan) (g.F.Shape.joins plan) (g.F.Shape.first plan) plan.roots
    plan.links plan.words
    plan.nodes table) (map-set unplanned xs seat (cpu, section, now)) k.kept)
    (at_map unplanned xs writer (who, own, of_plan plan (Writer latest nodes stored)) kept)
    (at_map unplanned xs seat (cpu, section, was) at) reads on low
    (told_at (λ (p : Plan). IsFollowed (g.F.Shape.fits p) (g.F.Shape.joins p) (g.F.Shape.first p)
    p.roots
    p.links
    p.words p.nodes) _ was _ now plan (h.told seat (cpu, section, was) at) told)
