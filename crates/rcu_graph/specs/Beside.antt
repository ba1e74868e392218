-- A run of a graph's shared words beside an open section, by atomic steps: at each moment the rule
-- holds, and from one to the next the writer takes a step, the section does, or another seat.
use Rattle.std.specs.Prelude.{◌≡◌, ℕ, suc, ◌+◌, ◌<◌, ◌≤◌, Bool, IsTrue, List, None, Some}
use Rattle.std.specs.Prelude.{slice_index}
use mathlib.Core.Option.{some}
use lib.ListN.{get_elem?}
use Rattle.rcu_seq.specs.Numbers.{Number}
use Rattle.rcu_live.specs.Client.{AreLone, AreOpen, Views}
use Rattle.rcu_graph.specs.Absence.{IsOnIfOurs}
use Rattle.rcu_graph.specs.Nodes.{IsKeeping, IsOn, IsReader, nodes_in, place_of, state_at}
use Rattle.rcu_graph.specs.Planned.{IsKeptBy, of_plan, tells_follow, tells_link}
use Rattle.rcu_graph.specs.Planned.{tells_mark_unlinked, tells_publish, tells_reclaim, tells_write}
use Rattle.rcu_graph.specs.Planned.{tells_write_link}
use Rattle.rcu_graph.specs.Search.{Ascends}
use Rattle.rcu_graph.specs.declared.known.Known.{Known}
use Rattle.rcu_graph.specs.declared.known.Node.{Node}
use Rattle.rcu_graph.specs.declared.known.Planned.{Planned}
use Rattle.rcu_graph.specs.declared.node_state.NodeState.TheVariants.{Free, Live}
use Rattle.rcu_graph.specs.declared.plan.Plan.{Plan}

-- the objects of the rule at a moment: the words, and the shown parts of the seats. And the
-- knowledge of two of these: the writer, and the section
pub record Moment : Type 0 where
  pub words : List ℕ
  pub seats : Views Planned
  pub writer : Known
  pub section : Known

-- the nodes at each moment, as the writer knows them
abbrev pub nodes_at : (ℕ → Moment) → ℕ → List Node
nodes_at moments t = nodes_in (moments t).writer

-- the user's facts on the chain of a root: some words are those of its nodes. The root has such
-- words, a link 0 leads from such a node to another one, and along it the keys go up
pub record IsChainOf (joins : Plan → ℕ → List ℕ → List ℕ → Type 0) (first : Plan → ℕ → List ℕ)
    (plan : Plan) (ours : List ℕ → Bool) (root : ℕ) : Type 0 where
  pub inside : root < plan.roots
  pub link : 0 < plan.links
  pub own : IsTrue (ours (first plan root))
  pub stays : (from to : List ℕ) → joins plan 0 from to → IsTrue (ours from) → IsTrue (ours to)
  pub ascends : Ascends (joins plan) 0

-- the place of the k-th of a node's links and words
abbrev pub cell_of : Plan → ℕ → ℕ → ℕ
cell_of plan = place_of plan.roots plan.links plan.words

module _ (plan : Plan) (before after : Moment) where
  -- the writer made a step at a place, at which it stored this value or found it, with the relation
  -- of such a step
  abbrev pub HasStored : (ℕ → Planned → ℕ → Planned → Type 0) → ℕ → ℕ → Type 0
  HasStored tells place value =
      tells place (of_plan plan before.writer) value (of_plan plan after.writer)

  -- the move of the writer between two moments: none, as when another seat made a step; or one
  -- step. It stored a word or a link of a free node; it led a live one elsewhere, or to one that
  -- was free; it marked one unlinked; or it loaded a number, at which each open section may be open
  pub data IsWriterMove : Type 0 where
    rested : after.writer ≡ before.writer → IsWriterMove
    wrote : (node word value : ℕ)
        → word < plan.words
        → state_at (nodes_in before.writer) node ≡ Free
        → HasStored tells_write (cell_of plan node (plan.links + word)) value
        → IsWriterMove
    wrote_link : (node link value : ℕ)
        → link < plan.links
        → state_at (nodes_in before.writer) node ≡ Free
        → HasStored tells_write_link (cell_of plan node link) value
        → IsWriterMove
    led : (node link value : ℕ)
        → link < plan.links
        → state_at (nodes_in before.writer) node ≡ Live
        → HasStored tells_link (cell_of plan node link) value
        → IsWriterMove
    published : (from link to : ℕ)
        → link < plan.links
        → state_at (nodes_in before.writer) from ≡ Live
        → state_at (nodes_in before.writer) to ≡ Free
        → HasStored tells_publish (cell_of plan from link) (suc to)
        → IsWriterMove
    marked_unlinked : (node value : ℕ)
        → 0 < plan.links + plan.words
        → HasStored tells_mark_unlinked (cell_of plan node 0) value
        → IsWriterMove
    looked : (number : Number)
        → AreOpen number before.seats
        → tells_reclaim (of_plan plan before.writer) number (of_plan plan after.writer)
        → IsWriterMove

  -- a live node that was led elsewhere was on its chain then
  abbrev pub IsOnChain : (List ℕ → Bool) → ℕ → IsWriterMove → Type 0
  IsOnChain ours root (rested same) = Unit {0}
  IsOnChain ours root (wrote node word value low free told) = Unit {0}
  IsOnChain ours root (wrote_link node link value low free told) = Unit {0}
  IsOnChain ours root (led node link value low live told) =
      IsOnIfOurs ours root (nodes_in before.writer) node
  IsOnChain ours root (published from link to low live free told) =
      IsOnIfOurs ours root (nodes_in before.writer) from
  IsOnChain ours root (marked_unlinked node value low told) = Unit {0}
  IsOnChain ours root (looked number opens told) = Unit {0}

module _ (fits : Plan → List ℕ → Type 0) (joins : Plan → ℕ → List ℕ → List ℕ → Type 0)
    (first : Plan → ℕ → List ℕ) (plan : Plan) where
  -- at a moment the rule holds, and this seat is the nodes' writer
  pub record IsKeptAt (writer : ℕ) (moment : Moment) : Type 0 where
    pub rule : IsKeptBy fits joins first plan moment.words moment.seats
    pub shown : get_elem? moment.seats writer ≡ some (None, None, of_plan plan moment.writer)
    pub keeps : IsKeeping moment.writer

  -- this holds at each moment from 0 to the last, and between two of them the writer makes at most
  -- one step
  pub record IsKeptOver (writer last : ℕ) (moments : ℕ → Moment) : Type 0 where
    pub at : (t : ℕ) → t ≤ last → IsKeptAt writer (moments t)
    pub moves : (t : ℕ) → t < last → IsWriterMove plan (moments t) (moments (suc t))

  -- at a moment a section is open that began at this number, on this seat
  pub record IsOpenAt (seat : ℕ) (opened : Number) (moment : Moment) : Type 0 where
    pub cpu : ℕ
    pub shown : get_elem? moment.seats seat
        ≡ some (Some cpu, Some opened, of_plan plan moment.section)
    pub reads : IsReader moment.section

  -- the move of the section between two moments: no hop; or one, by one load of a link of a node
  -- that it is on
  pub data IsSectionMove (before after : Moment) : Type 0 where
    stayed : after.section ≡ before.section → IsSectionMove before after
    followed : (node link : ℕ) (words : List ℕ)
        → link < plan.links
        → IsOn (first plan) plan.roots before.section node words
        → tells_follow fits joins first (cell_of plan node link) (of_plan plan before.section)
        (slice_index before.words (cell_of plan node link)) (of_plan plan after.section)
        → after.writer ≡ before.writer
        → IsSectionMove before after

  -- it is open at each moment from 0 to the last, and between two of them it makes at most one hop
  pub record IsOpenOver (seat : ℕ) (opened : Number) (last : ℕ) (moments : ℕ → Moment) : Type 0
    where
      pub at : (t : ℕ) → t ≤ last → IsOpenAt seat opened (moments t)
      pub moves : (t : ℕ) → t < last → IsSectionMove (moments t) (moments (suc t))

  -- each live node that the writer led elsewhere was on the chain, if it was one of the chain's
  abbrev pub AreOnChain : (List ℕ → Bool) → (root writer last : ℕ) (moments : ℕ → Moment)
      → IsKeptOver writer last moments → Type 0
  AreOnChain ours root writer last moments kept =
      (t : ℕ) (low : t < last)
      → IsOnChain plan (moments t) (moments (suc t)) ours root (kept.moves t low)

  -- at a moment a step may be made: the rule holds, the section is open, each open section may be
  -- open at the number, and a processor has one seat
  pub record CanGoOn (writer seat : ℕ) (opened number : Number) (moment : Moment) : Type 0 where
    pub kept : IsKeptAt writer moment
    pub is_open : IsOpenAt seat opened moment
    pub current : AreOpen number moment.seats
    pub lone : AreLone moment.seats

  -- from one moment a run goes on to another
  pub record GoesOn (writer seat : ℕ) (opened : Number) (before after : Moment) : Type 0 where
    pub kept : IsKeptAt writer after
    pub is_open : IsOpenAt seat opened after
    pub writers : IsWriterMove plan before after
    pub sections : IsSectionMove before after
