use Rattle.std.proofs.Common.{subst}
use Rattle.rcu_live.specs.Watcher.{Watching}
use Rattle.rcu_graph.specs.Nodes.{nodes_in}
use Rattle.rcu_graph.specs.declared.known.Planned.{Planned}
use Rattle.rcu_cell.specs.Versions.{AreVersions}
use Rattle.rcu_cell.proofs.Kept.{any, are_versions, tended_along_one}
use Rattle.rcu_cell.proofs.writer.Writer.kept.Goals as goal

pub returns : goal.returns
returns g c =
    let k = c.self.invariant in
    let w : Watching Planned = c.self.inside.nodes in
    subst (λ (v : Watching Planned). AreVersions g.F.Invariant.holds
    (nodes_in v.view.client.known))
    c.self.view_is
    (are_versions g.F.Invariant.holds any (nodes_in w.view.client.known)
    (tended_along_one g.F.Invariant.holds w.view.client.plan (nodes_in w.view.client.known)
    k.of_cell.root k.of_cell.one c.kept.ensures.tended)
    k.one)
