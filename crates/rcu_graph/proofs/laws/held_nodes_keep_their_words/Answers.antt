use Rattle.std.specs.Prelude.{map}
use Rattle.atomic_table.proofs.Lists.{at_map}
use Rattle.rcu_graph.specs.Planned.{unplanned}
use Rattle.rcu_graph.proofs.HeldNodes.{words_kept}
use Rattle.rcu_graph.proofs.laws.held_nodes_keep_their_words.Goals as goal

pub returns : goal.returns
returns g c = λ plan before after xs ys seat node word cpu section here later was now words
    h k at later_at.
    words_kept (g.F.Shape.fits plan) (g.F.Shape.joins plan) (g.F.Shape.first plan) plan.roots
    plan.links
    plan.words plan.nodes before after (map unplanned xs) (map unplanned ys) seat node word
    cpu section here later
    was.known now.known words h.kept k.kept (at_map unplanned xs seat (cpu, section, was) at)
    (at_map unplanned ys seat (here, later, now) later_at)
