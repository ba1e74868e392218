-- The rule of the nodes: an invariant of their words and of the seats' knowledge about them,
-- between any two steps of any threads.
use Rattle.std.specs.Prelude.{◌≡◌, ℕ, suc, ◌+◌, ◌*◌, ◌<◌, List, length, Option, Some, slice_index}
use mathlib.Core.Option.{some}
use lib.ListN.{get_elem?}
use Rattle.rcu_seq.specs.Numbers.{Number}
use Rattle.rcu_live.specs.Client.{Views}
use Rattle.rcu_graph.specs.Nodes.{IsBy, IsHeld, IsUsed, MayRead, Outlives, first_nodes, first_place}
use Rattle.rcu_graph.specs.Nodes.{place_of, row_of}
use Rattle.rcu_graph.specs.declared.known.Known.{Known}
use Rattle.rcu_graph.specs.declared.known.Known.TheVariants.{Idle, Owner, Reader, Writer}
use Rattle.rcu_graph.specs.declared.known.Node.{Node}
use Rattle.rcu_graph.specs.declared.node_state.NodeState.TheVariants.{Live}

-- the knowledge of a seat with this section about the node i, to which it came: the node has these
-- words, in a state in which the section may be on it
pub record Reading (nodes : List Node) (section : Option Number) (i : ℕ)
    (words : List ℕ) : Type 0 where
  pub opened : Number
  pub is_open : section ≡ Some opened
  pub on : Node
  pub here : get_elem? nodes i ≡ some on
  pub same : on.words ≡ words
  pub may : MayRead opened on.state

-- the knowledge of a seat is true of these nodes, which have one writer
abbrev pub Knows : (ℕ → List ℕ) → ℕ → ℕ → ℕ → ℕ → List Node → Number → ℕ → ℕ → Option Number → Known
    → Type 0
Knows first roots links width count nodes latest writer id section Idle = Unit {0}
Knows first roots links width count nodes latest writer id section Owner =
    (nodes ≡ first_nodes links width first roots count) × (latest ≡ 0) × (writer ≡ id)
Knows first roots links width count nodes latest writer id section (Reader hops) =
    (i : ℕ) (words : List ℕ) → IsHeld (Reader hops) i words → Reading nodes section i words
Knows first roots links width count nodes latest writer id section (Writer l known stored) =
    (l ≡ latest) × (known ≡ nodes) × (writer ≡ id)

-- a link leads to a node on which each section that may be on the first one may be, and joins the
-- two
pub record Leads (joins : ℕ → List ℕ → List ℕ → Type 0) (nodes : List Node) (from : Node)
    (l j : ℕ) : Type 0 where
  pub to : Node
  pub here : get_elem? nodes j ≡ some to
  pub lasts : Outlives from.state to.state
  pub joined : joins l from.words to.words

abbrev pub IsLed : (ℕ → List ℕ → List ℕ → Type 0) → ℕ → List Node → Node → Type 0
IsLed joins links nodes from =
    (l j : ℕ) → l < links → slice_index from.links l ≡ suc j → Leads joins nodes from l j

-- the invariant of the nodes and of their words: none was retired after this number
pub record AreKept (fits : List ℕ → Type 0) (joins : ℕ → List ℕ → List ℕ → Type 0)
    (first : ℕ → List ℕ) (roots links width count : ℕ) (words : List ℕ) (nodes : List Node)
    (latest : Number) : Type 0 where
  pub few : length nodes ≡ count
  pub long : length words ≡ first_place + (links + width) * count
  pub rooted : (i : ℕ) → i < roots
      → (v : Node) × (get_elem? nodes i ≡ some v) × (v.state ≡ Live) × (v.words ≡ first i)
  pub linked : (i : ℕ) (v : Node) → get_elem? nodes i ≡ some v → length v.links ≡ links
  pub sized : (i : ℕ) (v : Node) → get_elem? nodes i ≡ some v → length v.words ≡ width
  pub written : (i : ℕ) (v : Node) → get_elem? nodes i ≡ some v → (k : ℕ) → k < links + width
      → slice_index words (place_of roots links width i k) ≡ slice_index (row_of v) k
  pub whole : (i : ℕ) (v : Node) → get_elem? nodes i ≡ some v → IsUsed v.state → fits v.words
  pub by : (i : ℕ) (v : Node) → get_elem? nodes i ≡ some v → IsBy latest v.state
  pub led : (i : ℕ) (v : Node) → get_elem? nodes i ≡ some v → IsUsed v.state
      → IsLed joins links nodes v

pub record IsKept (fits : List ℕ → Type 0) (joins : ℕ → List ℕ → List ℕ → Type 0)
    (first : ℕ → List ℕ) (roots links width count : ℕ) (words : List ℕ)
    (xs : Views Known) : Type 0 where
  pub nodes : List Node
  pub latest : Number
  pub writer : ℕ
  pub kept : AreKept fits joins first roots links width count words nodes latest
  pub seats : (id : ℕ) (cpu : Option ℕ) (section : Option Number) (known : Known)
      → get_elem? xs id ≡ some (cpu, section, known)
      → Knows first roots links width count nodes latest writer id section known
