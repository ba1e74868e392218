-- A writer's invariant of the live nodes, and the nodes that it unlinks automatically.
use Rattle.std.specs.Prelude.{◌≡◌, ◌⊎◌, ◌<◌, ◌≤◌, ℕ, suc, Bool, true, List, Option, length, map}
use Rattle.std.specs.Prelude.{slice_index}
use Rattle.rcu_live.specs.Watcher.{Watching}
use Rattle.rcu_graph.specs.Graph.{word_to}
use Rattle.rcu_graph.specs.Writer.{after_step}
use Rattle.rcu_graph.specs.Nodes.{IsTarget, in_state, linked_to, node_at, nodes_in, renewed}
use Rattle.rcu_graph.specs.Nodes.{state_at}
use Rattle.rcu_graph.specs.declared.known.Planned.{Planned}
use Rattle.rcu_graph.specs.declared.known.Node.{Node}
use Rattle.rcu_graph.specs.declared.node_state.NodeState.TheVariants.{Free, Live, Unlinked}

-- a link of a live node leads to the node j
pub record IsReached (links : ℕ) (nodes : List Node) (j : ℕ) : Type 0 where
  pub from : ℕ
  pub link : ℕ
  pub live : state_at nodes from ≡ Live
  pub inside : link < links
  pub leads : slice_index (node_at nodes from).links link ≡ suc j

-- each link of a live node leads nowhere, or to a live node to which it may lead
abbrev pub AreLed : (ℕ → List ℕ → List ℕ → Type 0) → ℕ → List Node → Type 0
AreLed joins links nodes =
    (i l : ℕ) → state_at nodes i ≡ Live → l < links
    → IsTarget (joins l) (node_at nodes i).words nodes (slice_index (node_at nodes i).links l)

-- each root is live; each live node is whole, its links lead nowhere or to live nodes to which they
-- may lead, and it is a root or a live node leads to it
pub record AreTended (fits : List ℕ → Type 0) (joins : ℕ → List ℕ → List ℕ → Type 0)
    (roots links : ℕ) (nodes : List Node) : Type 0 where
  pub rooted : (i : ℕ) → i < roots → state_at nodes i ≡ Live
  pub whole : (i : ℕ) → state_at nodes i ≡ Live → fits (node_at nodes i).words
  pub led : AreLed joins links nodes
  pub reached : (i : ℕ) → state_at nodes i ≡ Live → roots ≤ i → IsReached links nodes i

-- one of these nodes leads to the node j
pub record IsReachedFrom (links : ℕ) (nodes : List Node) (these : ℕ → Bool) (j : ℕ) : Type 0 where
  pub from : ℕ
  pub link : ℕ
  pub one : these from ≡ true
  pub inside : link < links
  pub leads : slice_index (node_at nodes from).links link ≡ suc j

-- each of these nodes is live, and is a root or has a link from one of them
pub record AreHeldUp (roots links : ℕ) (nodes : List Node) (these : ℕ → Bool) : Type 0 where
  pub live : (i : ℕ) → these i ≡ true → state_at nodes i ≡ Live
  pub held : (i : ℕ) → these i ≡ true → (i < roots) ⊎ IsReachedFrom links nodes these i

-- of the stored nodes those are unlinked that are no roots and to which no live node leads, and
-- nothing else changes: nodes that keep one another reachable stay live
pub record AreCollected (roots links : ℕ) (stored nodes : List Node) : Type 0 where
  pub few : length nodes ≡ length stored
  pub links_stay : (i : ℕ) → (node_at nodes i).links ≡ (node_at stored i).links
  pub words_stay : (i : ℕ) → (node_at nodes i).words ≡ (node_at stored i).words
  pub states : (i : ℕ) → (state_at nodes i ≡ state_at stored i)
      ⊎ ((roots ≤ i) × (state_at stored i ≡ Live) × (state_at nodes i ≡ Unlinked))
  pub reached : (i : ℕ) → state_at nodes i ≡ Live → roots ≤ i → IsReached links nodes i
  pub stay : (these : ℕ → Bool) → AreHeldUp roots links stored these → (i : ℕ) → these i ≡ true
      → state_at nodes i ≡ Live

-- the nodes after a link of the node i was led to the free node j, which is then live
abbrev pub published : List Node → ℕ → ℕ → ℕ → List Node
published nodes i l j = renewed (renewed nodes j (in_state Live)) i (linked_to l (suc j))

-- the nodes after a link of the node i was led to this one, or nowhere
abbrev pub relinked : List Node → ℕ → ℕ → Option ℕ → List Node
relinked nodes i l to = renewed nodes i (linked_to l (word_to to))

-- a node with these links and words
abbrev pub filled_with : List ℕ → List ℕ → Node → Node
filled_with links words v = record { state = v.state; links = links; words = words }

-- after the links and words of the node i were written
abbrev pub after_fill : Watching Planned → ℕ → List ℕ → List (Option ℕ) → Watching Planned
after_fill writer i words links = after_step writer
    (renewed (nodes_in writer.view.client.known) i (filled_with (map word_to links) words))

-- no node is free
abbrev pub AreAllUsed : List Node → Type 0
AreAllUsed nodes = (i : ℕ) → i < length nodes → state_at nodes i ≡ Free → ⊥
