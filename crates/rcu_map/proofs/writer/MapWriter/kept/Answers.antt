use Rattle.std.proofs.Common.{ℕ, subst}
use Rattle.rcu_live.specs.Watcher.{Watching}
use Rattle.rcu_graph.specs.Nodes.{nodes_in}
use Rattle.rcu_graph.specs.declared.known.Planned.{Planned}
use Rattle.rcu_map.specs.Chains.{buckets_in}
use Rattle.rcu_map.specs.Entries.{HasKey}
use Rattle.rcu_map.specs.Room.{AreAllLive, IsAtCapacity}
use Rattle.rcu_map.proofs.Rooms.{not_all_live, not_all_used}
use Rattle.rcu_map.proofs.writer.MapWriter.kept.Goals as goal

pub returns-clause-entry : goal.returns-clause-entry
returns-clause-entry g c =
    subst (λ (w : Watching Planned). (key : ℕ)
    → HasKey (buckets_in w) (nodes_in w.view.client.known) key
    → AreAllLive (nodes_in w.view.client.known) → ⊥) c.self.view_is
    (not_all_live g.E.Invariant.holds g.row.W c.self.inside.nodes c.self.inside.len
    c.self.invariant)

pub returns-clause-room : goal.returns-clause-room
returns-clause-room g c =
    subst (λ (w : Watching Planned). (IsAtCapacity w → ⊥)
    → AreAllLive (nodes_in w.view.client.known) → ⊥) c.self.view_is
    (not_all_used g.E.Invariant.holds g.row.W c.self.inside.nodes c.self.inside.len
    c.self.invariant)
