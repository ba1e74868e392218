use Rattle.std.proofs.Common.{ap, subst}
use Rattle.rcu_live.specs.Watcher.{Watching}
use Rattle.rcu_graph.specs.Nodes.{nodes_in}
use Rattle.rcu_graph.specs.declared.known.Planned.{Planned}
use Rattle.rcu_graph.proofs.Looks.{looked_as_live}
use Rattle.rcu_map.specs.Chains.{buckets_in}
use Rattle.rcu_map.specs.Entries.{AreSameEntries}
use Rattle.rcu_map.proofs.Reclaims.{kept_reclaimed, reclaimed_entries}
use Rattle.rcu_map.proofs.writer.MapWriter.reclaim.Goals as goal

pub invariant_of-self : goal.invariant_of-self
invariant_of-self g c =
    let e = c.reclaim-number.ensures.state in
    let t = c.kept.ensures in
    kept_reclaimed g.E.Invariant.holds _ c.self.inside.nodes c.reclaim-number.new.self
    (ap (λ (w : Watching Planned). w.view.client.plan) e)
    (looked_as_live c.self.inside.nodes c.reclaim-number.new.self c.reclaim-number.result e)
    t.few t.tended
    c.self.inside.len c.self.invariant

pub returns-clause-entries : goal.returns-clause-entries
returns-clause-entries g c =
    subst (λ (w : Watching Planned). AreSameEntries (buckets_in w) (nodes_in w.view.client.known)
    (nodes_in c.reclaim-number.new.self.view.client.known))
    c.self.view_is
    (reclaimed_entries (buckets_in c.self.inside.nodes) _ _
    (looked_as_live c.self.inside.nodes c.reclaim-number.new.self c.reclaim-number.result
    c.reclaim-number.ensures.state))
