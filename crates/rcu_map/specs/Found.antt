-- The result of a lookup in a map.
use Rattle.std.specs.Prelude.{◌≡◌, ◌≤◌, ℕ, Bool, List, Option, Some, None, is_some}
use Rattle.rcu_live.specs.CpuSeat.{Seated}
use Rattle.rcu_graph.specs.Nodes.{IsHeld}
use Rattle.rcu_graph.specs.Search.{IsSearched}
use Rattle.rcu_graph.specs.Sections.{after_section}
use Rattle.rcu_graph.specs.declared.known.Known.{Known}
use Rattle.rcu_graph.specs.declared.known.Planned.{Planned}
use Rattle.rcu_map.specs.Keys.{bucket_of, key_in}
use Rattle.rcu_map.specs.Puts.{IsOfKey}

-- the section holds this node, which has the key, and whose words are an entry's and decode to this
-- one
pub record IsEntryFound {E : Type 0} (holds : List ℕ → Type 0) (decode : List ℕ → E) (key : ℕ)
    (known : Known) (node : ℕ) (entry : E) : Type 0 where
  pub words : List ℕ
  pub held : IsHeld known node words
  pub whole : holds words
  pub is : key_in words ≡ key
  pub told : entry ≡ decode words

-- there is an entry exactly if there is a node, and it is that node's
abbrev pub IsOfNode : {E : Type 0} → (ℕ → E → Type 0) → Option ℕ → Option E → Type 0
IsOfNode is None None = Unit {0}
IsOfNode is (Some node) (Some entry) = is node entry
IsOfNode is None (Some entry) = ⊥
IsOfNode is (Some node) None = ⊥

-- the section searched the chain of the key's bucket, and the result is the entry of the node that
-- it found there
pub record IsGot {E : Type 0} (holds : List ℕ → Type 0) (decode : List ℕ → E)
    (buckets seed key : ℕ) (was : Known) (result : Option E) (now : Known) : Type 0 where
  pub node : Option ℕ
  pub searched : IsSearched (bucket_of buckets seed key) key was node now
  pub told : IsOfNode (λ i entry. IsEntryFound holds decode key now i entry) node result

-- the section searched the chain of the key's bucket, and there is an entry exactly if it found a
-- node
pub record IsLookedUp (buckets seed key : ℕ) (was : Known) (there : Bool) (now : Known) : Type 0
  where
    pub node : Option ℕ
    pub searched : IsSearched (bucket_of buckets seed key) key was node now
    pub told : is_some node ≡ there

-- a section was opened on the seat, looked the key up, and was closed: what it found has the key,
-- and the user's fact holds for it
pub record HasLookedUp {E : Type 0} (valid : E → Type 0) (key_of : E → ℕ) (key : ℕ)
    (before : Seated Planned) (found : Option E) (after : Seated Planned) : Type 0 where
  pub state : after ≡ after_section before after.view.seen
  pub later : before.view.seen ≤ after.view.seen
  pub keyed : IsOfKey valid key_of key found
