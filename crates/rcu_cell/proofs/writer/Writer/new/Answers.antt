use Rattle.std.proofs.Common.{◌∙◌, ◌<◌, ap, subst, sym}
use Rattle.rcu_live.specs.Board.{Object}
use Rattle.rcu_live.specs.InPart.{watcher_part}
use Rattle.rcu_live.specs.Watcher.{Watching}
use Rattle.rcu_graph.specs.Writer.{IsWriterOf}
use Rattle.rcu_graph.specs.Nodes.{nodes_in}
use Rattle.rcu_graph.specs.Steps.{IsClaimed}
use Rattle.rcu_graph.specs.declared.known.Planned.{Planned}
use Rattle.rcu_graph.specs.declared.plan.Plan.{Plan}
use Rattle.rcu_cell.proofs.Kept.{kept_first}
use Rattle.rcu_cell.proofs.writer.Writer.new.Goals as goal

pub invariant_of-result : goal.invariant_of-result
invariant_of-result g c =
    let back = sym c.cell.view_is in
    let k = c.cell.invariant in
    let p : Plan = c.cell.inside.graph.plan in
    let writer = subst (λ (o : Object Plan).
    IsWriterOf o (watcher_part g.P.Within.lens c.args.seat)) back c.requires.writer in
    let claimed = subst (λ (o : Object Plan). IsClaimed (λ _. g.F.Version.first) o.plan.roots
    o.plan.links o.plan.words o.plan.nodes (g.P.Within.lens.get c.args.seat.view.client).known)
    back c.requires.nodes in
    kept_first _ p c.in_ok-nodes.nodes g.F.Version.first k.root k.one k.words
    (subst (λ (o : Object Plan). 2 < o.plan.nodes) back c.requires.several)
    (ap (λ (w : Watching Planned). w.view.client.plan) c.in_ok-nodes.ensures
    ∙ writer.watches.planned)
    (ap (λ (w : Watching Planned). nodes_in w.view.client.known) c.in_ok-nodes.ensures
    ∙ ap nodes_in claimed)
