-- The words of a graph at first.
use Rattle.std.specs.Prelude.{◌≡◌, Err, None, Ok, Option, Result, ℕ, ◌+◌, ◌*◌, ◌^◌, ◌<◌, ◌≤◌, List}
use Rattle.std.specs.Prelude.{[], length, slice_index}
use Rattle.atomic_table.specs.Seated.{TableId}
use Rattle.rcu_seq.specs.Memory.{tested_fault}
use Rattle.rcu_seq.specs.declared.fault.Fault.{Fault}
use Rattle.rcu_live.specs.Board.{Object}
use Rattle.rcu_live.specs.Watcher.{Watching, after_word_step, watcher_at_first}
use Rattle.rcu_live.specs.Words.{base_of}
use Rattle.rcu_graph.specs.Nodes.{first_nodes, place_of}
use Rattle.rcu_graph.specs.Planned.{of_plan}
use Rattle.rcu_graph.specs.declared.known.Known.TheVariants.{Owner, Writer}
use Rattle.rcu_graph.specs.declared.known.Planned.{Planned}
use Rattle.rcu_graph.specs.declared.not_opened.NotOpened.{NotOpened}
use Rattle.rcu_graph.specs.declared.not_opened.NotOpened.TheVariants.{BadSizes}
use Rattle.rcu_graph.specs.declared.not_opened.NotOpened.TheVariants as not_opened
use Rattle.rcu_graph.specs.declared.plan.Layout.{Layout}
use Rattle.rcu_graph.specs.declared.plan.Plan.{Plan}

-- a graph may have this size: the roots are nodes, each node has a word, and all links and words
-- fit in memory
pub record IsSized (plan : Plan) : Type 0 where
  pub words : 0 < plan.words
  pub inside : plan.roots ≤ plan.nodes
  pub row : plan.links + plan.words ≤ 2 ^ 32
  pub small : (plan.links + plan.words) * plan.nodes ≤ 2 ^ 32

-- the layout of the links and the words of the nodes
abbrev pub layout_of : Object Plan → Layout
layout_of graph = record { base = graph.base; plan = graph.plan }

-- the fault that the tests of an opening with legal sizes found: none if it is accepted, or if
-- memory is refused
abbrev pub tested_opening : {A : Type 0} → Result A NotOpened → Option Fault
tested_opening (Ok value) = None
tested_opening (Err BadSizes) = None
tested_opening (Err (not_opened.Fault fault)) = tested_fault {A = Unit {0}} (Err fault)

-- the first words of each root are this many, and satisfy the user's fact
pub record AreWhole (fits : List ℕ → Type 0) (first : ℕ → List ℕ) (plan : Plan) : Type 0 where
  pub sized : (i : ℕ) → i < plan.roots → length (first i) ≡ plan.words
  pub fit : (i : ℕ) → i < plan.roots → fits (first i)

-- this number of first nodes have their first words, out of this number of roots, and each link and
-- each other word is 0
pub record AreFirst (first : ℕ → List ℕ) (many roots links width : ℕ)
    (words : List ℕ) : Type 0 where
  pub no_links : (i l : ℕ) → l < links → slice_index words (place_of roots links width i l) ≡ 0
  pub stored : (i k : ℕ)
      → i < many
      → k < width
      → slice_index words (place_of roots links width i (links + k))
      ≡ slice_index (first i) k
  pub rest : (i k : ℕ) → many ≤ i → k < width
      → slice_index words (place_of roots links width i (links + k)) ≡ 0

-- the knowledge of the writer of a graph of this plan, with the nodes as they are at first
abbrev pub claimed_first : (ℕ → List ℕ) → Plan → Planned
claimed_first first plan =
    of_plan plan (Writer 0 (first_nodes plan.links plan.words first plan.roots plan.nodes) [])

-- that writer in an engine of this number of processors
abbrev pub writer_at_first : (ℕ → List ℕ) → TableId → ℕ → Plan → Watching Planned
writer_at_first first table cpus plan =
    after_word_step (watcher_at_first table (base_of cpus) (of_plan plan Owner))
    (claimed_first first plan)
