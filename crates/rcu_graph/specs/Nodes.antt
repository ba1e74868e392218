-- Nodes that lead to one another: the state of each, and its change by a load of the number.
use Rattle.std.specs.Prelude.{◌≡◌, ◌≢◌, ℕ, suc, ◌+◌, ◌-◌, ◌*◌, ◌⊎◌, ◌<◌, ◌≤◌, if◌then◌else◌, Bool}
use Rattle.std.specs.Prelude.{true, false, List, [], ◌++◌, ◌∷◌, map, replicate, slice_index}
use Rattle.std.specs.Prelude.{slice_index_or, slice_set, nat_lt}
use Rattle.std.specs.Coded.{Unit-prop}
use Rattle.std.specs.List.{range_with_len}
use mathlib.Core.Option.{some}
use lib.ListN.{get_elem?}
use Rattle.rcu_seq.specs.Numbers.{Number}
use Rattle.rcu_live.specs.Numbers.{is_past}
use Rattle.rcu_graph.specs.declared.known.Hop.{Hop}
use Rattle.rcu_graph.specs.declared.known.Known.{Known}
use Rattle.rcu_graph.specs.declared.known.Known.TheVariants.{Idle, Owner, Reader, Writer}
use Rattle.rcu_graph.specs.declared.known.Node.{Node}
use Rattle.rcu_graph.specs.declared.node_state.NodeState.{NodeState}
use Rattle.rcu_graph.specs.declared.node_state.NodeState.TheVariants.{Free, Live, Retired, Unlinked}

-- the first place of the rows of the nodes
abbrev pub first_place : ℕ
first_place = 16

-- the place of the k-th of a node's links and words. The links of the roots are side by side, so
-- that one cache line has those of many, and behind them are the words of the roots. Each other
-- node has a row of both, at the place that it would have if the roots had such rows
abbrev pub place_of : ℕ → ℕ → ℕ → ℕ → ℕ → ℕ
place_of roots links width i k =
    if nat_lt i roots
    then (if nat_lt k links then first_place + links * i + k
    else first_place + links * roots + width * i + (k - links))
    else first_place + (links + width) * i + k

-- a section that began at a number may be on a node in this state
abbrev pub MayRead : Number → NodeState → Type 0
MayRead at Free = ⊥
MayRead at Live = Unit {0}
MayRead at Unlinked = Unit {0}
MayRead at (Retired number) = at ≤ number

abbrev pub IsUsed : NodeState → Type 0
IsUsed Free = ⊥
IsUsed Live = Unit {0}
IsUsed Unlinked = Unit {0}
IsUsed (Retired number) = Unit {0}

abbrev pub is_free : NodeState → Bool
is_free Free = true
is_free Live = false
is_free Unlinked = false
is_free (Retired number) = false

abbrev pub is_live : NodeState → Bool
is_live Free = false
is_live Live = true
is_live Unlinked = false
is_live (Retired number) = false

-- a section that may be on a node in the first state may go on to one in the second, now and after
-- each load of the number
abbrev pub Outlives : NodeState → NodeState → Type 0
Outlives Free to = Unit {0}
Outlives Live Free = ⊥
Outlives Live Live = Unit {0}
Outlives Live Unlinked = ⊥
Outlives Live (Retired to) = ⊥
Outlives Unlinked Free = ⊥
Outlives Unlinked Live = Unit {0}
Outlives Unlinked Unlinked = Unit {0}
Outlives Unlinked (Retired to) = ⊥
Outlives (Retired from) Free = ⊥
Outlives (Retired from) Live = Unit {0}
Outlives (Retired from) Unlinked = Unit {0}
Outlives (Retired from) (Retired to) = from ≤ to

-- it was retired by this number
abbrev pub IsBy : Number → NodeState → Type 0
IsBy latest Free = Unit {0}
IsBy latest Live = Unit {0}
IsBy latest Unlinked = Unit {0}
IsBy latest (Retired number) = number ≤ latest

-- the links and the words of a node, side by side
abbrev pub row_of : Node → List ℕ
row_of v = v.links ++ v.words

abbrev pub no_node : Node
no_node = record { state = Free; links = []; words = [] }

abbrev pub node_at : List Node → ℕ → Node
node_at nodes i = slice_index_or nodes i no_node

-- the state of the node i
abbrev pub state_at : List Node → ℕ → NodeState
state_at nodes i = (node_at nodes i).state

-- the node with another state, with another link, with another word
abbrev pub in_state : NodeState → Node → Node
in_state state v = record { state = state; links = v.links; words = v.words }

abbrev pub linked_to : ℕ → ℕ → Node → Node
linked_to l x v = record { state = v.state; links = slice_set v.links l x; words = v.words }

abbrev pub worded : ℕ → ℕ → Node → Node
worded k x v = record { state = v.state; links = v.links; words = slice_set v.words k x }

-- one node is changed like this
abbrev pub renewed : List Node → ℕ → (Node → Node) → List Node
renewed nodes i change = slice_set nodes i (change (node_at nodes i))

-- at the number n, which is at most m: an unlinked node was unlinked no later than m, and a node
-- that was unlinked a full grace period ago is free
abbrev pub reclaimed_state : Number → Number → NodeState → NodeState
reclaimed_state n m Free = Free
reclaimed_state n m Live = Live
reclaimed_state n m Unlinked = Retired m
reclaimed_state n m (Retired number) = if is_past number n then Free else Retired number

abbrev pub reclaimed_node : Number → Number → Node → Node
reclaimed_node n m v = in_state (reclaimed_state n m v.state) v

abbrev pub reclaimed : Number → Number → List Node → List Node
reclaimed n m nodes = map (reclaimed_node n m) nodes

-- the first nodes are the roots, with these words, and the others are free
abbrev pub root : ℕ → List ℕ → Node
root links words = record { state = Live; links = replicate links 0; words = words }

abbrev pub free_node : ℕ → ℕ → Node
free_node links width = record {
  state = Free;
  links = replicate links 0;
  words = replicate width 0;
}

abbrev pub first_node : ℕ → ℕ → (ℕ → List ℕ) → ℕ → ℕ → Node
first_node links width first roots i =
    if nat_lt i roots then root links (first i) else free_node links width

abbrev pub first_nodes : ℕ → ℕ → (ℕ → List ℕ) → ℕ → ℕ → List Node
first_nodes links width first roots count =
    map (first_node links width first roots) (range_with_len 0 count)

-- no live node leads to the node i
abbrev pub IsUnlinked : ℕ → List Node → ℕ → Type 0
IsUnlinked links nodes i =
    (j l : ℕ) (v : Node) → get_elem? nodes j ≡ some v → v.state ≡ Live → l < links
    → slice_index v.links l ≢ suc i

-- each link of these leads nowhere, or to a live node to which it may lead
abbrev pub IsTarget : (List ℕ → List ℕ → Type 0) → List ℕ → List Node → ℕ → Type 0
IsTarget joins words nodes x =
    (j : ℕ) → x ≡ suc j
    → (to : Node) × (get_elem? nodes j ≡ some to) × (to.state ≡ Live) × joins words to.words

-- the hops of a section, the latest one first
abbrev pub hops_in : Known → List Hop
hops_in Idle = []
hops_in Owner = []
hops_in (Reader hops) = hops
hops_in (Writer latest nodes stored) = []

-- a section made one more hop: from the node i along the link l it found the word x, and came to
-- these words
abbrev pub after_hop : Known → ℕ → ℕ → ℕ → List ℕ → Known
after_hop was i l x words =
    Reader (record { from = i; link = l; to = x; words = words } ∷ hops_in was)

-- it is a reader, it is the nodes' writer
abbrev pub IsReader : Known → Type 0
IsReader Idle = Unit {0}
IsReader Owner = ⊥
IsReader (Reader hops) = Unit {0}
IsReader (Writer latest nodes stored) = ⊥

-- (a fact with at most one proof, as each fact that a struct keeps)
pub reader_once : (known : Known) → IsProp (IsReader known)
reader_once Idle = Unit-prop
reader_once Owner = λ a b. absurd a
reader_once (Reader hops) = Unit-prop
reader_once (Writer latest nodes stored) = λ a b. absurd a

abbrev pub IsKeeping : Known → Type 0
IsKeeping Idle = ⊥
IsKeeping Owner = ⊥
IsKeeping (Reader hops) = ⊥
IsKeeping (Writer latest nodes stored) = Unit {0}

abbrev pub nodes_in : Known → List Node
nodes_in Idle = []
nodes_in Owner = []
nodes_in (Reader hops) = []
nodes_in (Writer latest nodes stored) = nodes

abbrev pub latest_in : Known → Number
latest_in Idle = 0
latest_in Owner = 0
latest_in (Reader hops) = 0
latest_in (Writer latest nodes stored) = latest

-- the nodes after each store that led a live one elsewhere, the latest store first
abbrev pub stored_in : Known → List (List Node)
stored_in Idle = []
stored_in Owner = []
stored_in (Reader hops) = []
stored_in (Writer latest nodes stored) = stored

-- the section came to the node i, which has these words: one of its hops led there
abbrev pub IsHeld : Known → ℕ → List ℕ → Type 0
IsHeld known i words =
    (k : ℕ)
    × (h : Hop)
    × (get_elem? (hops_in known) k ≡ some h)
    × (h.to ≡ suc i)
    × (h.words ≡ words)

-- the node i has these words: it is a root, or the section holds it
abbrev pub IsOn : (ℕ → List ℕ) → ℕ → Known → ℕ → List ℕ → Type 0
IsOn first roots known i words = ((i < roots) × (first i ≡ words)) ⊎ IsHeld known i words

-- the knowledge that is left when a section closes
abbrev pub closed : Known → Known
closed Idle = Idle
closed Owner = Owner
closed (Reader hops) = Idle
closed (Writer latest nodes stored) = Writer latest nodes stored
