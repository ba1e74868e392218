-- The entries of a map, as its nodes have them, and the changes by a writer's calls.
use Rattle.std.specs.Prelude.{◌≡◌, ◌≢◌, ◌⊎◌, ◌↔◌, ◌≤◌, ℕ, List, drop}
use Rattle.rcu_graph.specs.Absence.{key_at}
use Rattle.rcu_graph.specs.Nodes.{node_at, state_at}
use Rattle.rcu_graph.specs.Puts.{IsFreeNode}
use Rattle.rcu_graph.specs.Collecting.{live_in}
use Rattle.rcu_graph.specs.declared.known.Node.{Node}
use Rattle.rcu_graph.specs.declared.node_state.NodeState.TheVariants.{Live, Unlinked}
use Rattle.rcu_map.specs.Keys.{key_in}

-- the node i has an entry: it is live, and the root of no bucket
pub record IsEntry (buckets : ℕ) (nodes : List Node) (i : ℕ) : Type 0 where
  pub behind : buckets ≤ i
  pub live : state_at nodes i ≡ Live

-- the entry of these words is in the map
pub record HasEntry (buckets : ℕ) (nodes : List Node) (words : List ℕ) : Type 0 where
  pub node : ℕ
  pub entry : IsEntry buckets nodes node
  pub is : (node_at nodes node).words ≡ words

-- the node has an entry of this key
pub record IsNodeOf (buckets : ℕ) (nodes : List Node) (key node : ℕ) : Type 0 where
  pub entry : IsEntry buckets nodes node
  pub is : key_at nodes node ≡ key

-- an entry of this key is in the map
abbrev pub HasKey : ℕ → List Node → ℕ → Type 0
HasKey buckets nodes key = (node : ℕ) × IsNodeOf buckets nodes key node

-- how many entries are in the map: as many as live nodes behind the roots
abbrev pub entries_in : ℕ → List Node → ℕ
entries_in buckets nodes = live_in (drop buckets nodes)

-- the node i is in the same state, with the same words
pub record IsSame (before after : List Node) (i : ℕ) : Type 0 where
  pub state : state_at after i ≡ state_at before i
  pub words : (node_at after i).words ≡ (node_at before i).words

-- the entry of these words was inserted: the map has it, the entries that were there, and nothing
-- else. It has a node that was free, and the other nodes are the same
pub record IsInserted (buckets : ℕ) (before : List Node) (words : List ℕ)
    (after : List Node) : Type 0 where
  pub entries : (w : List ℕ) → HasEntry buckets after w ↔ (HasEntry buckets before w ⊎ (w ≡ words))
  pub node : ℕ
  pub was_free : IsFreeNode before node
  pub live : state_at after node ≡ Live
  pub is : (node_at after node).words ≡ words
  pub others : (i : ℕ) → i ≢ node → IsSame before after i

-- the entry of these words replaced the one that had its key: the map has it, those of other keys,
-- and nothing else. It has a node that was free, the node of the old one was unlinked, and the
-- other nodes are the same
pub record IsReplaced (buckets : ℕ) (before : List Node) (words : List ℕ)
    (after : List Node) : Type 0 where
  pub entries : (w : List ℕ)
      → HasEntry buckets after w
      ↔ ((HasEntry buckets before w × (key_in w ≢ key_in words)) ⊎ (w ≡ words))
  pub node : ℕ
  pub was_free : IsFreeNode before node
  pub live : state_at after node ≡ Live
  pub is : (node_at after node).words ≡ words
  pub old : ℕ
  pub had : IsNodeOf buckets before (key_in words) old
  pub unlinked : state_at after old ≡ Unlinked
  pub stays : (node_at after old).words ≡ (node_at before old).words
  pub others : (i : ℕ) → i ≢ node → i ≢ old → IsSame before after i

-- the entry of this key was removed: the map has those of other keys, and nothing else. Its node
-- was unlinked, and the other nodes are the same
pub record IsRemoved (buckets : ℕ) (before : List Node) (key : ℕ) (after : List Node) : Type 0 where
  pub entries : (w : List ℕ)
      → HasEntry buckets after w ↔ (HasEntry buckets before w × (key_in w ≢ key))
  pub old : ℕ
  pub had : IsNodeOf buckets before key old
  pub unlinked : state_at after old ≡ Unlinked
  pub stays : (node_at after old).words ≡ (node_at before old).words
  pub others : (i : ℕ) → i ≢ old → IsSame before after i

-- the entries are those that were there
abbrev pub AreSameEntries : ℕ → List Node → List Node → Type 0
AreSameEntries buckets before after =
    (w : List ℕ) → HasEntry buckets after w ↔ HasEntry buckets before w

-- the map has an entry of this key, whose words decode to this one
pub record IsEntryOf {E : Type 0} (decode : List ℕ → E) (buckets : ℕ) (nodes : List Node) (key : ℕ)
    (entry : E) : Type 0 where
  pub words : List ℕ
  pub has : HasEntry buckets nodes words
  pub is : key_in words ≡ key
  pub told : entry ≡ decode words
