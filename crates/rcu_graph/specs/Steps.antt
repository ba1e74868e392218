-- The relation of each step on the nodes.
use Rattle.std.specs.Prelude.{◌≡◌, ◌⊎◌, ℕ, suc, ◌+◌, ◌<◌, List, [], ◌∷◌, length, max, slice_index}
use Rattle.rcu_seq.specs.Numbers.{Number}
use Rattle.rcu_graph.specs.Nodes.{IsOn, after_hop, first_nodes, in_state, latest_in, linked_to}
use Rattle.rcu_graph.specs.Nodes.{nodes_in, place_of, reclaimed, renewed, stored_in, worded}
use Rattle.rcu_graph.specs.declared.known.Known.{Known}
use Rattle.rcu_graph.specs.declared.known.Known.TheVariants.{Writer}
use Rattle.rcu_graph.specs.declared.known.Node.{Node}
use Rattle.rcu_graph.specs.declared.node_state.NodeState.TheVariants.{Live, Unlinked}

-- the section came to the node j, which has these words, by a link that may lead there: the node is
-- whole
pub record Came (fits joins : List ℕ → Type 0) (width count j : ℕ) (words : List ℕ) : Type 0 where
  pub inside : j < count
  pub size : length words ≡ width
  pub whole : fits words
  pub joined : joins words

-- the target of this word of a link: nowhere, if there are no words, or a node which has these
-- words
abbrev pub IsLedTo : (List ℕ → Type 0) → (List ℕ → Type 0) → ℕ → ℕ → ℕ → List ℕ → Type 0
IsLedTo fits joins width count x words =
    ((x ≡ 0) × (words ≡ [])) ⊎ ((j : ℕ) × (x ≡ suc j) × Came fits joins width count j words)

-- the link l of the node i was loaded, and this word was found there: the hops of the section are
-- those before, and this one
pub record Followed (fits joins : List ℕ → Type 0) (width count : ℕ) (was : Known) (i l x : ℕ)
    (now : Known) : Type 0 where
  pub words : List ℕ
  pub is : now ≡ after_hop was i l x words
  pub led : IsLedTo fits joins width count x words

abbrev pub IsFollowed : (List ℕ → Type 0)
    → (ℕ → List ℕ → List ℕ → Type 0) → (ℕ → List ℕ) → ℕ → ℕ → ℕ → ℕ → ℕ → Known → ℕ → Known → Type 0
IsFollowed fits joins first roots links width count place was x now =
    (i l : ℕ) (words : List ℕ)
    → l < links → place ≡ place_of roots links width i l → IsOn first roots was i words
    → Followed fits (joins l words) width count was i l x now

-- a word of a node was loaded: the one that it had when the section came to it
abbrev pub IsRead : (ℕ → List ℕ) → ℕ → ℕ → ℕ → ℕ → Known → ℕ → Known → Type 0
IsRead first roots links width place was x now =
    (now ≡ was)
    × ((i k : ℕ) (words : List ℕ)
    → k < width → place ≡ place_of roots links width i (links + k) → IsOn first roots was i words
    → x ≡ slice_index words k)

-- the seat is the nodes' writer from now on, with the nodes as at first
abbrev pub IsClaimed : (ℕ → List ℕ) → ℕ → ℕ → ℕ → ℕ → Known → Type 0
IsClaimed first roots links width count now =
    now ≡ Writer 0 (first_nodes links width first roots count) []

-- the writer then knows these nodes, and no further store
abbrev pub keeping : Known → List Node → Known
keeping was nodes = Writer (latest_in was) nodes (stored_in was)

-- the nodes after a store that led a live one elsewhere
abbrev pub storing : Known → List Node → Known
storing was nodes = Writer (latest_in was) nodes (nodes ∷ stored_in was)

-- a word of a free node was stored, and a link of one
abbrev pub IsWritten : ℕ → ℕ → ℕ → ℕ → Known → ℕ → Known → Type 0
IsWritten roots links width place was x now =
    (i k : ℕ) → k < width → place ≡ place_of roots links width i (links + k)
    → now ≡ keeping was (renewed (nodes_in was) i (worded k x))

abbrev pub IsLinkWritten : ℕ → ℕ → ℕ → ℕ → Known → ℕ → Known → Type 0
IsLinkWritten roots links width place was x now =
    (i l : ℕ) → l < links → place ≡ place_of roots links width i l
    → now ≡ keeping was (renewed (nodes_in was) i (linked_to l x))

-- a link of a live node was stored
abbrev pub IsLinked : ℕ → ℕ → ℕ → ℕ → Known → ℕ → Known → Type 0
IsLinked roots links width place was x now =
    (i l : ℕ) → l < links → place ≡ place_of roots links width i l
    → now ≡ storing was (renewed (nodes_in was) i (linked_to l x))

-- a link was stored that leads to a node which is live from now on
abbrev pub IsPublished : ℕ → ℕ → ℕ → ℕ → Known → ℕ → Known → Type 0
IsPublished roots links width place was x now =
    (i l j : ℕ)
    → l < links
    → place ≡ place_of roots links width i l
    → x ≡ suc j
    → now ≡ storing was (renewed (renewed (nodes_in was) j (in_state Live)) i (linked_to l x))

-- a node was unlinked
abbrev pub IsMarkedUnlinked : ℕ → ℕ → ℕ → ℕ → Known → ℕ → Known → Type 0
IsMarkedUnlinked roots links width place was x now =
    (i k : ℕ) → k < links + width → place ≡ place_of roots links width i k
    → now ≡ keeping was (renewed (nodes_in was) i (in_state Unlinked))

-- the nodes after a load of the number
abbrev pub IsReclaimed : Known → Number → Known → Type 0
IsReclaimed was number now =
    now
    ≡ Writer (max number (latest_in was)) (reclaimed number (max number (latest_in was))
    (nodes_in was))
    (stored_in was)
