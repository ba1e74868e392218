-- The chains of a map, as its writer knows them.
use Rattle.std.specs.Prelude.{◌≡◌, ◌<◌, ◌≤◌, ◌+◌, ◌-◌, ℕ, suc, List, length}
use Rattle.rcu_live.specs.Watcher.{Watching}
use Rattle.rcu_graph.specs.Absence.{key_at, next_of}
use Rattle.rcu_graph.specs.Nodes.{node_at, state_at}
use Rattle.rcu_graph.specs.Opening.{IsSized}
use Rattle.rcu_graph.specs.Planned.{plan_of}
use Rattle.rcu_graph.specs.Tended.{AreTended}
use Rattle.rcu_graph.specs.declared.known.Planned.{Planned}
use Rattle.rcu_graph.specs.declared.known.Node.{Node}
use Rattle.rcu_graph.specs.declared.node_state.NodeState.TheVariants.{Live}
use Rattle.rcu_graph.specs.declared.plan.Plan.{Plan}
use Rattle.rcu_map.specs.Entries.{entries_in}
use Rattle.rcu_map.specs.Keys.{GoesUp, IsWhole, bucket_in, multiplier_of, root_words}

-- how many buckets the map of a writer has, and the number by which it multiplies its keys
abbrev pub buckets_in : Watching Planned → ℕ
buckets_in writer = writer.view.client.plan.roots

abbrev pub seed_in : Watching Planned → ℕ
seed_in writer = writer.view.client.plan.seed

-- the plan of a map of this number of buckets, words for each entry, and entries, and of this seed:
-- besides a node for each bucket and entry it has one more, so that a full map can replace
abbrev pub plan_of_map : ℕ → ℕ → ℕ → ℕ → Plan
plan_of_map buckets width entries seed =
    plan_of buckets 1 width (buckets + entries + 1) (multiplier_of seed)

-- how many entries a map of this plan may have
abbrev pub capacity : Plan → ℕ
capacity plan = plan.nodes - plan.roots - 1

-- a map may have this number of buckets, words for each entry, and entries: an entry has a key and
-- one more word
pub record HasSizes (buckets width entries : ℕ) : Type 0 where
  pub some : 0 < buckets
  pub wide : 2 ≤ width
  pub graph : IsSized (plan_of_map buckets width entries 0)

-- the plan of a map whose entries have this many words: two or more, if the number is 0
pub record IsPlanOfMap (width : ℕ) (plan : Plan) : Type 0 where
  pub some : 0 < plan.roots
  pub one : plan.links ≡ 1
  pub wide : 2 ≤ plan.words
  pub words : 0 < width → plan.words ≡ width

-- both nodes are live, and of one bucket
pub record AreOfOneBucket (buckets seed : ℕ) (nodes : List Node) (i j : ℕ) : Type 0 where
  pub first : state_at nodes i ≡ Live
  pub second : state_at nodes j ≡ Live
  pub same : bucket_in buckets seed (node_at nodes i).words ≡ bucket_in buckets seed
      (node_at nodes j).words

-- the node i leads to a node whose key is no greater than that of the node j
pub record LeadsTowards (nodes : List Node) (i j : ℕ) : Type 0 where
  pub to : ℕ
  pub leads : next_of nodes i ≡ suc to
  pub near : key_at nodes to ≤ key_at nodes j

-- this number of nodes are those of a map of this number of buckets. The live ones are tended, and
-- have a link each; the roots have their words. The live nodes of a bucket are one chain, in the
-- order of their keys: each leads to the one with the next greater key. No two have one key
pub record IsMap (holds : List ℕ → Type 0) (buckets seed width count : ℕ)
    (nodes : List Node) : Type 0 where
  pub few : length nodes ≡ count
  pub tended : AreTended (IsWhole holds width) (λ _ from to. GoesUp buckets seed from to) buckets 1
      nodes
  pub roots : (i : ℕ) → i < buckets → (node_at nodes i).words ≡ root_words width i
  pub linked : (i : ℕ) → state_at nodes i ≡ Live → length (node_at nodes i).links ≡ 1
  pub next : (i j : ℕ) → AreOfOneBucket buckets seed nodes i j → key_at nodes i < key_at nodes j
      → LeadsTowards nodes i j
  pub apart : (i j : ℕ) → AreOfOneBucket buckets seed nodes i j → key_at nodes i ≡ key_at nodes j →
      i ≡ j

-- the nodes are those of a map of this plan, whose roots are those of the buckets, with this number
-- of entries, which are no more than it may have, of two words or more: of exactly this number of
-- words, if it is not 0
pub record IsKept (holds : List ℕ → Type 0) (width : ℕ) (plan : Plan) (nodes : List Node)
    (len : ℕ) : Type 0 where
  pub some : 0 < plan.roots
  pub one : plan.links ≡ 1
  pub wide : 2 ≤ plan.words
  pub words : 0 < width → plan.words ≡ width
  pub map : IsMap holds plan.roots plan.seed plan.words plan.nodes nodes
  pub count : len ≡ entries_in plan.roots nodes
  pub most : len ≤ capacity plan
