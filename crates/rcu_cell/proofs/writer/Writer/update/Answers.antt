use Rattle.std.proofs.Common.{◌∙◌, ap, subst, sym}
use Rattle.rcu_live.specs.Watcher.{Watching}
use Rattle.rcu_graph.specs.Nodes.{nodes_in}
use Rattle.rcu_graph.specs.declared.known.Planned.{Planned}
use Rattle.rcu_cell.specs.Writer.{Updated}
use Rattle.rcu_cell.specs.Versions.{shown_in}
use Rattle.rcu_cell.proofs.Updates.{kept_put, updated}
use Rattle.rcu_cell.proofs.writer.Writer.update.Goals as goal

pub invariant_of-self-2 : goal.invariant_of-self-2
invariant_of-self-2 g c =
    kept_put g.F.Invariant.holds _ c.self.inside.nodes c.put.new.self c.self.invariant
    c.kept.ensures.few c.kept.ensures.tended c.in_ok-by.by c.args.words.now c.in_ok-by.ensures

pub returns-clause-state : goal.returns-clause-state
returns-clause-state g c =
    subst (λ (w : Watching Planned). Updated w c.args.words.now
    (record { slot = c.shown-slot.result; by = c.in_ok-by.by }) c.put.new.self)
    c.self.view_is
    (updated g.F.Invariant.holds _ c.self.inside.nodes c.put.new.self c.self.invariant
    c.kept.ensures.few c.kept.ensures.tended c.in_ok-by.by c.args.words.now c.in_ok-by.ensures
    c.shown-slot.result
    (c.shown-slot.ensures
    ∙ ap (λ (w : Watching Planned). shown_in (nodes_in w.view.client.known))
    (sym c.self.view_is)))
