-- A search that finds nothing, over the nodes as the writer knows them at the moments of the
-- section.
use Rattle.std.specs.Prelude.{◌≡◌, ℕ, suc, ◌<◌, ◌≤◌, Bool, List, [], ◌∷◌, IsTrue}
use Rattle.std.specs.Prelude.{slice_index}
use Rattle.rcu_seq.specs.Numbers.{Number}
use Rattle.rcu_graph.specs.Nodes.{MayRead, in_state, linked_to, node_at, renewed, state_at}
use Rattle.rcu_graph.specs.declared.known.Hop.{Hop}
use Rattle.rcu_graph.specs.declared.known.Node.{Node}
use Rattle.rcu_graph.specs.declared.node_state.NodeState.TheVariants.{Free, Live}

-- the word of the link 0 of the node i, and the node's key
abbrev pub next_of : List Node → ℕ → ℕ
next_of nodes i = slice_index (node_at nodes i).links 0

abbrev pub key_at : List Node → ℕ → ℕ
key_at nodes i = slice_index (node_at nodes i).words 0

-- the links 0 lead from a node to this one
pub data Reaches (nodes : List Node) (to : ℕ) : ℕ → Type 0 where
  arrived : (from : ℕ) → from ≡ to → Reaches nodes to from
  onwards : (from next : ℕ) → next_of nodes from ≡ suc next → Reaches nodes to next
      → Reaches nodes to from

-- the key is linked: the chain behind the root leads to a node with the key
pub record IsLinkedKey (root key : ℕ) (nodes : List Node) : Type 0 where
  pub begin : ℕ
  pub holder : ℕ
  pub begins : next_of nodes root ≡ suc begin
  pub reached : Reaches nodes holder begin
  pub has : key_at nodes holder ≡ key

-- the words are linked: the chain behind the root leads to a node with these
pub record AreLinkedWords (root : ℕ) (words : List ℕ) (nodes : List Node) : Type 0 where
  pub begin : ℕ
  pub holder : ℕ
  pub begins : next_of nodes root ≡ suc begin
  pub reached : Reaches nodes holder begin
  pub are : (node_at nodes holder).words ≡ words

-- some words are those of nodes of the root's chain. The root is live and of its chain, and the
-- link 0 of a live node leads to a live one with a greater key, of the same chain
pub record IsChained (ours : List ℕ → Bool) (root : ℕ) (nodes : List Node) : Type 0 where
  pub rooted : state_at nodes root ≡ Live
  pub own : IsTrue (ours (node_at nodes root).words)
  pub live : (i j : ℕ) → state_at nodes i ≡ Live → next_of nodes i ≡ suc j → state_at nodes j ≡ Live
  pub ascends : (i j : ℕ) → state_at nodes i ≡ Live → next_of nodes i ≡ suc j
      → key_at nodes i < key_at nodes j
  pub stays : (i j : ℕ) → state_at nodes i ≡ Live → next_of nodes i ≡ suc j
      → IsTrue (ours (node_at nodes i).words) → IsTrue (ours (node_at nodes j).words)

-- the node i is on the chain, if it is one of the chain's
abbrev pub IsOnIfOurs : (List ℕ → Bool) → ℕ → List Node → ℕ → Type 0
IsOnIfOurs ours root nodes i = IsTrue (ours (node_at nodes i).words) → Reaches nodes i root

-- for a section that began at this number a node stays as it is: if the section may be on it, it
-- still may, and the node has its links and words. The same for all nodes
abbrev pub IsSameFor : Number → Node → Node → Type 0
IsSameFor opened before after =
    MayRead opened before.state
    → MayRead opened after.state
    × (after.links ≡ before.links)
    × (after.words ≡ before.words)

abbrev pub AreSameFor : Number → List Node → List Node → Type 0
AreSameFor opened before after = (i : ℕ) → IsSameFor opened (node_at before i) (node_at after i)

-- a step of the writer beside a section that began at this number. For the section each node stays
-- as it is; or a link was stored in a node that is on its chain; or such a node was linked to a
-- free one, which is then live. So a node that was taken off the chain leads to the same node while
-- the section is open
pub data IsWriterStep (ours : List ℕ → Bool) (opened : Number) (root : ℕ)
    (before after : List Node) : Type 0 where
  aside : AreSameFor opened before after → IsWriterStep ours opened root before after
  linked : (i l x : ℕ) → IsOnIfOurs ours root before i
      → after ≡ renewed before i (linked_to l x) → IsWriterStep ours opened root before after
  published : (i l j : ℕ)
      → state_at before i ≡ Live
      → state_at before j ≡ Free
      → IsOnIfOurs ours root before i
      → after ≡ renewed (renewed before j (in_state Live)) i (linked_to l (suc j))
      → IsWriterStep ours opened root before after

-- the nodes at each moment from the section's beginning, which is 0, to the search's end: each
-- moment is a step of the writer after the one before
pub record IsHistory (ours : List ℕ → Bool) (opened : Number) (root last : ℕ)
    (nodes : ℕ → List Node) : Type 0 where
  pub chained : (t : ℕ) → t ≤ last → IsChained ours root (nodes t)
  pub steps : (t : ℕ) → t < last → IsWriterStep ours opened root (nodes t) (nodes (suc t))

-- a hop was true of these nodes: it found the target of the link then, and that node's words
pub record IsTrueOf (nodes : List Node) (hop : Hop) : Type 0 where
  pub to : hop.to ≡ slice_index (node_at nodes hop.from).links hop.link
  pub words : (j : ℕ) → hop.to ≡ suc j → hop.words ≡ (node_at nodes j).words

-- these hops, the latest one first, were made by this moment, each true at a moment of its own,
-- which is no earlier than that of the hop before
abbrev pub AreMadeBy : (ℕ → List Node) → ℕ → List Hop → Type 0
AreMadeBy nodes moment [] = Unit {0}
AreMadeBy nodes moment (hop ∷ before) =
    (t : ℕ) × (t ≤ moment) × IsTrueOf (nodes t) hop × AreMadeBy nodes t before
