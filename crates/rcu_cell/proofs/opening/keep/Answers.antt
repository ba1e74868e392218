use Rattle.std.proofs.Common.{◌∙◌, ap, arith, subst, sym}
use Rattle.rcu_live.specs.Board.{Object}
use Rattle.rcu_live.specs.Watcher.{Watching}
use Rattle.rcu_graph.specs.Nodes.{nodes_in}
use Rattle.rcu_graph.specs.Tended.{AreAllUsed}
use Rattle.rcu_graph.specs.declared.known.Planned.{Planned}
use Rattle.rcu_graph.specs.declared.plan.Plan.{Plan}
use Rattle.rcu_cell.proofs.Kept.{some_free}
use Rattle.rcu_cell.proofs.opening.keep.Goals as goal

pub unreachable-requires : goal.unreachable-requires
unreachable-requires g c =
    let p : Plan = c.args.cell.now.plan in
    let root = ap (λ (o : Object Plan). o.plan.roots) (sym c.cell.view_is)
    ∙ c.cell.invariant.root in
    let several = c.requires.several in
    some_free p.links p.words p.nodes p.roots (λ _. g.F.Version.first)
    (omega (arith, root, several))
    (subst AreAllUsed
    (ap (λ (w : Watching Planned). nodes_in w.view.client.known) c.in_ok-writer.ensures
    ∙ ap nodes_in c.requires.nodes)
    c.in_default.ensures.full)
