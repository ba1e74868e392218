-- The result of a search in a chain, and its hops when it ends.
use Rattle.std.specs.Prelude.{◌≡◌, ◌⊎◌, ℕ, suc, ◌<◌, List, [], ◌∷◌, ◌++◌, Option, Some, None}
use Rattle.std.specs.Prelude.{slice_index}
use Rattle.rcu_graph.specs.Nodes.{IsHeld, hops_in}
use Rattle.rcu_graph.specs.declared.known.Hop.{Hop}
use Rattle.rcu_graph.specs.declared.known.Known.{Known}
use Rattle.rcu_graph.specs.declared.plan.Plan.{Plan}

-- the keys, which are the first words, go up along the links of this number
abbrev pub Ascends : (ℕ → List ℕ → List ℕ → Type 0) → ℕ → Type 0
Ascends joins link = (from to : List ℕ) → joins link from to → slice_index from 0 < slice_index to 0

-- from this root leads a chain along the first link, on which the keys go up
pub record HeadsChain (joins : ℕ → List ℕ → List ℕ → Type 0) (plan : Plan) (root : ℕ) : Type 0
  where
    pub is_root : root < plan.roots
    pub link : 0 < plan.links
    pub ascends : Ascends joins 0

-- the section holds this node, which is whole and has the key
pub record IsFound (fits : List ℕ → Type 0) (key : ℕ) (known : Known) (node : ℕ) : Type 0 where
  pub words : List ℕ
  pub held : IsHeld known node words
  pub whole : fits words
  pub is : slice_index words 0 ≡ key

-- the key of the node to which a hop led
abbrev pub key_after : Hop → ℕ
key_after hop = slice_index hop.words 0

-- these hops, the latest one first, are a path from the root to the node: each is along the link 0,
-- from the node to which the one before it led, and it led to a node whose key is below this one
abbrev pub IsPath : ℕ → ℕ → List Hop → ℕ → Type 0
IsPath root key [] node = node ≡ root
IsPath root key (hop ∷ before) node =
    (hop.to ≡ suc node) × (hop.link ≡ 0) × (key_after hop < key) × IsPath root key before hop.from

-- this hop decides a search for the key: it led to the node with the key, or else nowhere or to a
-- greater key
abbrev pub Decides : ℕ → Option ℕ → Hop → Type 0
Decides key (Some node) hop = (hop.to ≡ suc node) × (key_after hop ≡ key)
Decides key None hop = (hop.to ≡ 0) ⊎ (key < key_after hop)

-- a section searched the chain of the root for the key: its hops are those before, a path from the
-- root over lesser keys, and from the path's end the one that decides
pub record IsSearched (root key : ℕ) (was : Known) (found : Option ℕ) (now : Known) : Type 0 where
  pub path : List Hop
  pub last : Hop
  pub are : hops_in now ≡ last ∷ (path ++ hops_in was)
  pub is_path : IsPath root key path last.from
  pub along : last.link ≡ 0
  pub decided : Decides key found last
