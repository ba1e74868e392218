-- A writer while it unlinks the nodes to which no live node leads.
use Rattle.std.specs.Prelude.{◌≡◌, ◌⊎◌, ◌+◌, ◌<◌, ◌≤◌, ℕ, suc, Bool, true, List, ◌++◌, length, drop}
use Rattle.std.specs.Prelude.{take, slice_index, sum_by, flat_map, All}
use Rattle.rcu_graph.specs.Counts.{links_to, one_if, times_in}
use Rattle.rcu_graph.specs.Nodes.{is_live, node_at, state_at}
use Rattle.rcu_graph.specs.Tended.{AreHeldUp, AreTended}
use Rattle.rcu_graph.specs.declared.known.Node.{Node}
use Rattle.rcu_graph.specs.declared.node_state.NodeState.TheVariants.{Live, Unlinked}

-- how many nodes are live
abbrev pub live_in : List Node → ℕ
live_in nodes = sum_by (λ v. one_if (is_live v.state)) nodes

-- links of unlinked nodes that are still counted: these words, and those of the nodes in this order
-- from a place on
abbrev pub owed : List Node → List ℕ → ℕ → ℕ → List ℕ → List ℕ
owed stored unlinking from to words =
    words ++ flat_map (λ i. (node_at stored i).links) (drop from (take to unlinking))

-- a word of a link leads nowhere, or to one of this number of nodes
abbrev pub IsInside : ℕ → ℕ → Type 0
IsInside count word = (i : ℕ) → word ≡ suc i → i < count

-- some of the stored nodes are unlinked, in this order; the count of each is that of the links of
-- live nodes that lead to it, and of the links still owed
pub record IsCollecting (count roots links : ℕ) (stored nodes : List Node)
    (counts unlinking : List ℕ)
    (from to : ℕ) (words : List ℕ) : Type 0 where
  pub few : length nodes ≡ count
  pub as_many : length stored ≡ count
  pub counts_many : length counts ≡ count
  pub room : length unlinking ≡ count
  pub sized : (i : ℕ) → i < count → length (node_at stored i).links ≡ links
  pub links_stay : (i : ℕ) → (node_at nodes i).links ≡ (node_at stored i).links
  pub words_stay : (i : ℕ) → (node_at nodes i).words ≡ (node_at stored i).words
  pub states : (i : ℕ) → (state_at nodes i ≡ state_at stored i)
      ⊎ ((roots ≤ i) × (state_at stored i ≡ Live) × (state_at nodes i ≡ Unlinked))
  pub stay : (these : ℕ → Bool) → AreHeldUp roots links stored these → (i : ℕ) → these i ≡ true
      → state_at nodes i ≡ Live
  pub closed : (i l j : ℕ)
      → state_at nodes i ≡ Live → l < links → slice_index (node_at nodes i).links l ≡ suc j
      → state_at nodes j ≡ Live
  pub up : (i : ℕ) → state_at nodes i ≡ Live → roots ≤ i → 0 < slice_index counts i
  pub counted : (i : ℕ)
      → i < count
      → slice_index counts i
      ≡ links_to nodes i + times_in (owed stored unlinking from to words) (suc i)
  pub inside : All (IsInside count) (owed stored unlinking from to words)
  pub ordered : (k : ℕ) → k < to → slice_index unlinking k < count
  pub going : from ≤ to
  pub enough : to + live_in nodes ≤ count

-- the live nodes are tended, and the count of each node is that of the links of live nodes that
-- lead to it
pub record IsCounted (fits : List ℕ → Type 0) (joins : ℕ → List ℕ → List ℕ → Type 0)
    (count roots links : ℕ) (nodes : List Node) (counts unlinking : List ℕ) : Type 0 where
  pub tended : AreTended fits joins roots links nodes
  pub many : length counts ≡ count
  pub room : length unlinking ≡ count
  pub counted : (i : ℕ) → i < count → slice_index counts i ≡ links_to nodes i
