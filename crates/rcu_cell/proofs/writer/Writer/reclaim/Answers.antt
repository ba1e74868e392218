use Rattle.std.proofs.Common.{ap}
use Rattle.rcu_live.specs.Watcher.{Watching}
use Rattle.rcu_graph.specs.declared.known.Planned.{Planned}
use Rattle.rcu_graph.proofs.Looks.{looked_as_live}
use Rattle.rcu_cell.proofs.Kept.{kept_reclaimed}
use Rattle.rcu_cell.proofs.writer.Writer.reclaim.Goals as goal

pub invariant_of-self : goal.invariant_of-self
invariant_of-self g c =
    let e = c.reclaim.ensures.state in
    kept_reclaimed _ _ _ _ _ (ap (λ (w : Watching Planned). w.view.client.plan) e)
    (looked_as_live c.self.inside.nodes c.reclaim.new.self c.reclaim.result e) c.self.invariant
