-- The room of a map for an entry.
use Rattle.std.specs.Prelude.{◌≡◌, ℕ, ◌≤◌, ◌<◌, ◌⊎◌, List, length}
use Rattle.rcu_live.specs.Watcher.{Watching}
use Rattle.rcu_graph.specs.Nodes.{nodes_in, state_at}
use Rattle.rcu_graph.specs.Tended.{AreAllUsed}
use Rattle.rcu_graph.specs.declared.known.Planned.{Planned}
use Rattle.rcu_graph.specs.declared.known.Node.{Node}
use Rattle.rcu_graph.specs.declared.node_state.NodeState.TheVariants.{Live}
use Rattle.rcu_map.specs.Chains.{buckets_in, capacity}
use Rattle.rcu_map.specs.Entries.{HasKey, entries_in}

-- the map has as many entries as it may
abbrev pub IsAtCapacity : Watching Planned → Type 0
IsAtCapacity writer = capacity writer.view.client.plan
    ≤ entries_in (buckets_in writer) (nodes_in writer.view.client.known)

-- one node is free, or more, and only for replacements: the map has as many entries as it may
pub record IsOnlyForReplacements (writer : Watching Planned) : Type 0 where
  pub free : ¬ AreAllUsed (nodes_in writer.view.client.known)
  pub full : IsAtCapacity writer

-- an entry of this key is one too many: none has the key, and the map has as many as it may
pub record IsOneTooMany (writer : Watching Planned) (key : ℕ) : Type 0 where
  pub absent : ¬ HasKey (buckets_in writer) (nodes_in writer.view.client.known) key
  pub full : IsAtCapacity writer

-- each node is live: none is free, and none waits for its grace period
abbrev pub AreAllLive : List Node → Type 0
AreAllLive nodes = (i : ℕ) → i < length nodes → state_at nodes i ≡ Live

-- no node is free yet: some wait for their grace period
pub record IsNoneFreeYet (nodes : List Node) : Type 0 where
  pub used : AreAllUsed nodes
  pub waits : ¬ AreAllLive nodes

-- the map has no room for an entry of this key: it is one too many, or no node is free yet
abbrev pub LacksRoom : Watching Planned → ℕ → Type 0
LacksRoom writer key =
    IsOneTooMany writer key ⊎ IsNoneFreeYet (nodes_in writer.view.client.known)
