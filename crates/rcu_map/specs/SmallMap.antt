-- A map of two buckets beside an open section. The section reads the first bucket, which has no
-- entry, and goes on to the only entry of the second. Then the writer inserts an entry behind that
-- one, replaces that one, removes the inserted one, and looks at the number. The section goes on
-- from its place, to the entry that was inserted and removed, and to the end.
use Rattle.std.specs.Prelude.{ℕ, zero, suc, ◌<◌, List, [], ◌∷◌, ◌++◌, None, Some, replicate}
use Rattle.std.specs.Prelude.{slice_index}
use Rattle.rcu_live.specs.Watcher.{Watching, after_word_step}
use Rattle.rcu_graph.specs.Beside.{Moment}
use Rattle.rcu_graph.specs.Planned.{of_plan}
use Rattle.rcu_graph.specs.Writer.{after_look, after_store}
use Rattle.rcu_graph.specs.declared.known.Hop.{Hop}
use Rattle.rcu_graph.specs.declared.known.Known.{Known}
use Rattle.rcu_graph.specs.declared.known.Known.TheVariants.{Reader, Writer}
use Rattle.rcu_graph.specs.declared.known.Node.{Node}
use Rattle.rcu_graph.specs.declared.known.Planned.{Planned}
use Rattle.rcu_graph.specs.declared.node_state.NodeState.{NodeState}
use Rattle.rcu_graph.specs.declared.node_state.NodeState.TheVariants.{Free, Live, Retired, Unlinked}
use Rattle.rcu_graph.specs.declared.plan.Plan.{Plan}
use Rattle.rcu_map.specs.Chains.{plan_of_map}
use Rattle.rcu_map.specs.Keys.{key_in}
use Rattle.rcu_map.specs.Listing.{at_root}
use Rattle.rcu_map.specs.Nexts.{Nexted}

-- two buckets, and up to two entries of two words each: five nodes
abbrev pub small_plan : Plan
small_plan = plan_of_map 2 2 2 0

-- the fact of an entry: it has a key
abbrev pub small_holds : List ℕ → Type 0
small_holds words = 0 < key_in words

-- a node with this link and these words
abbrev pub small_node : NodeState → ℕ → List ℕ → Node
small_node state next words = record { state = state; links = next ∷ []; words = words }

-- the roots of the two buckets, and three more nodes, by where the second root, the first one and
-- the last one of these lead, and by the states of these
abbrev pub nodes_by : ℕ → ℕ → ℕ → NodeState → NodeState → NodeState → List Node
nodes_by root first last a b c =
    small_node Live 0 (0 ∷ 0 ∷ [])
    ∷ small_node Live root (0 ∷ 1 ∷ [])
    ∷ small_node a first (3 ∷ 30 ∷ [])
    ∷ small_node b 0 (6 ∷ 60 ∷ [])
    ∷ small_node c last (3 ∷ 31 ∷ [])
    ∷ []

-- at first the node 2 has the one entry, of key 3; the node 3 is put behind it, with key 6; the
-- node 4 is put in its place; the node 2 is unlinked; the node 4 leads nowhere; the node 3 is
-- unlinked; and both are retired by the number 5
abbrev pub small_nodes : ℕ → List Node
small_nodes zero = nodes_by 3 0 4 Live Free Free
small_nodes (suc zero) = nodes_by 3 4 4 Live Live Free
small_nodes (suc (suc zero)) = nodes_by 5 4 4 Live Live Live
small_nodes (suc (suc (suc zero))) = nodes_by 5 4 4 Unlinked Live Live
small_nodes (suc (suc (suc (suc zero)))) = nodes_by 5 4 0 Unlinked Live Live
small_nodes (suc (suc (suc (suc (suc zero))))) = nodes_by 5 4 0 Unlinked Unlinked Live
small_nodes (suc (suc (suc (suc (suc (suc n)))))) = nodes_by 5 4 0 (Retired 5) (Retired 5) Live

-- their words, behind 16 others: the links of the roots, the words of each root, and of each other
-- node its link and its words
abbrev pub words_by : ℕ → ℕ → ℕ → List ℕ
words_by root first last =
    replicate 16 0
    ++ (0 ∷ root ∷ 0 ∷ 0 ∷ 0 ∷ 1 ∷ first ∷ 3 ∷ 30 ∷ 0 ∷ 6 ∷ 60 ∷ last ∷ 3 ∷ 31 ∷ [])

abbrev pub small_words : ℕ → List ℕ
small_words zero = words_by 3 0 4
small_words (suc zero) = words_by 3 4 4
small_words (suc (suc zero)) = words_by 5 4 4
small_words (suc (suc (suc zero))) = words_by 5 4 4
small_words (suc (suc (suc (suc n)))) = words_by 5 4 0

-- the knowledge of the writer then
abbrev pub small_writer : ℕ → Known
small_writer zero = Writer 0 (small_nodes 0) []
small_writer (suc zero) = Writer 0 (small_nodes 1) (small_nodes 1 ∷ [])
small_writer (suc (suc zero)) = Writer 0 (small_nodes 2) (small_nodes 2 ∷ small_nodes 1 ∷ [])
small_writer (suc (suc (suc zero))) =
    Writer 0 (small_nodes 3) (small_nodes 2 ∷ small_nodes 1 ∷ [])
small_writer (suc (suc (suc (suc zero)))) =
    Writer 0 (small_nodes 4) (small_nodes 4 ∷ small_nodes 2 ∷ small_nodes 1 ∷ [])
small_writer (suc (suc (suc (suc (suc zero))))) =
    Writer 0 (small_nodes 5) (small_nodes 4 ∷ small_nodes 2 ∷ small_nodes 1 ∷ [])
small_writer (suc (suc (suc (suc (suc (suc n)))))) =
    Writer 5 (small_nodes 6) (small_nodes 4 ∷ small_nodes 2 ∷ small_nodes 1 ∷ [])

-- from the first root nowhere, from the second one to the node 2, from there to the node 3, and
-- from there nowhere
abbrev pub hop_0 : Hop
hop_0 = record { from = 0; link = 0; to = 0; words = [] }

abbrev pub hop_1 : Hop
hop_1 = record { from = 1; link = 0; to = 3; words = 3 ∷ 30 ∷ [] }

abbrev pub hop_2 : Hop
hop_2 = record { from = 2; link = 0; to = 4; words = 6 ∷ 60 ∷ [] }

abbrev pub hop_3 : Hop
hop_3 = record { from = 3; link = 0; to = 0; words = [] }

abbrev pub small_hops : ℕ → List Hop
small_hops zero = []
small_hops (suc zero) = hop_0 ∷ []
small_hops (suc (suc zero)) = hop_1 ∷ hop_0 ∷ []
small_hops (suc (suc (suc zero))) = hop_2 ∷ hop_1 ∷ hop_0 ∷ []
small_hops (suc (suc (suc (suc n)))) = hop_3 ∷ hop_2 ∷ hop_1 ∷ hop_0 ∷ []

-- a moment at which processor 0 has the first seat, with a section that began at the number 4 and
-- made a number of hops, and the writer has the second seat
abbrev pub small_moment : ℕ → ℕ → Moment
small_moment n hops = record {
  words = small_words n;
  seats = (Some 0, Some 4, of_plan small_plan (Reader (small_hops hops)))
      ∷ (None, None, of_plan small_plan (small_writer n))
      ∷ [];
  writer = small_writer n;
  section = Reader (small_hops hops);
}

-- the section makes two hops, the writer six steps, and the section two hops more
abbrev pub small_moments : ℕ → Moment
small_moments zero = small_moment 0 0
small_moments (suc zero) = small_moment 0 1
small_moments (suc (suc zero)) = small_moment 0 2
small_moments (suc (suc (suc zero))) = small_moment 1 2
small_moments (suc (suc (suc (suc zero)))) = small_moment 2 2
small_moments (suc (suc (suc (suc (suc zero))))) = small_moment 3 2
small_moments (suc (suc (suc (suc (suc (suc zero)))))) = small_moment 4 2
small_moments (suc (suc (suc (suc (suc (suc (suc zero))))))) = small_moment 5 2
small_moments (suc (suc (suc (suc (suc (suc (suc (suc zero)))))))) = small_moment 6 2
small_moments (suc (suc (suc (suc (suc (suc (suc (suc (suc zero))))))))) = small_moment 6 3
small_moments (suc (suc (suc (suc (suc (suc (suc (suc (suc (suc t)))))))))) = small_moment 6 4

-- the writer's seat, which is any watcher's, before its calls and after each
module _ (own : Watching Planned) where
  abbrev pub small_begun : Watching Planned
  small_begun = after_word_step own (of_plan small_plan (small_writer 0))

  abbrev pub small_inserted : Watching Planned
  small_inserted = after_store small_begun (small_nodes 1) (small_nodes 1)

  abbrev pub small_replaced : Watching Planned
  small_replaced = after_store small_inserted (small_nodes 2) (small_nodes 3)

  abbrev pub small_removed : Watching Planned
  small_removed = after_store small_replaced (small_nodes 4) (small_nodes 5)

  abbrev pub small_looked : Watching Planned
  small_looked = after_look small_removed 5

-- an entry is its word beside the key
abbrev pub small_decode : List ℕ → ℕ
small_decode words = slice_index words 1

-- an iterator at its beginning, and what the two calls left of it that returned an entry, the
-- newest first
abbrev pub small_first : Nexted
small_first = record { known = Reader []; at = at_root 0 }

abbrev pub small_calls : List Nexted
small_calls =
    record { known = Reader (small_hops 3); at = record { bucket = 1; node = 3; key = 6 } }
    ∷ record { known = Reader (small_hops 2); at = record { bucket = 1; node = 2; key = 3 } }
    ∷ []
