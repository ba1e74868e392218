-- The effect of a map's writer on an entry that it has to put in, and on a key that it has to
-- remove.
use Rattle.std.specs.Prelude.{◌≡◌, ℕ, Bool, true, false, List, Option, Some, None, Result, IfOk}
use Rattle.std.specs.Prelude.{IfSome, OnErr, is_some}
use Rattle.rcu_live.specs.Watcher.{Watching}
use Rattle.rcu_graph.specs.Graph.{IsOfSameGraph}
use Rattle.rcu_graph.specs.Writer.{after_store}
use Rattle.rcu_graph.specs.Nodes.{nodes_in}
use Rattle.rcu_graph.specs.Tended.{AreCollected, AreLed}
use Rattle.rcu_graph.specs.declared.writer.Full.{Full}
use Rattle.rcu_graph.specs.declared.known.Planned.{Planned}
use Rattle.rcu_graph.specs.declared.known.Node.{Node}
use Rattle.rcu_map.specs.Chains.{buckets_in, seed_in}
use Rattle.rcu_map.specs.Entries.{HasKey, IsEntryOf, IsInserted, IsReplaced}
use Rattle.rcu_map.specs.Keys.{GoesUp}
use Rattle.rcu_map.specs.Splices.{IsOneStore}
use Rattle.rcu_map.specs.Room.{LacksRoom}
use Rattle.rcu_map.specs.declared.put.Put.{Put}
use Rattle.rcu_map.specs.declared.put.Put.TheVariants.{Insert, Replace, Upsert}

-- an entry is put in, if one has its key already or if none has
abbrev pub is_put : Put → Bool → Bool
is_put Insert true = false
is_put Insert false = true
is_put Replace there = there
is_put Upsert there = true

-- the same for the entries of these nodes
abbrev pub IsWanted : Put → ℕ → List Node → ℕ → Type 0
IsWanted Insert buckets nodes key = ¬ HasKey buckets nodes key
IsWanted Replace buckets nodes key = HasKey buckets nodes key
IsWanted Upsert buckets nodes key = Unit {0}

-- the entry that has this key, for which the user's fact holds
pub record IsHolder {E : Type 0} (decode : List ℕ → E) (valid : E → Type 0) (key_of : E → ℕ)
    (buckets : ℕ) (nodes : List Node) (key : ℕ) (entry : E) : Type 0 where
  pub is : IsEntryOf decode buckets nodes key entry
  pub keyed : key_of entry ≡ key
  pub sound : valid entry

-- no entry has this key, or this one has it
abbrev pub Holds : {E : Type 0}
    → (List ℕ → E) → (E → Type 0) → (E → ℕ) → ℕ → List Node → ℕ → Option E → Type 0
Holds decode valid key_of buckets nodes key None = ¬ HasKey buckets nodes key
Holds decode valid key_of buckets nodes key (Some entry) =
    IsHolder decode valid key_of buckets nodes key entry

-- if there is one, it is an entry of this key, for which the user's fact holds
abbrev pub IsOfKey : {E : Type 0} → (E → Type 0) → (E → ℕ) → ℕ → Option E → Type 0
IsOfKey valid key_of key old = IfSome old (λ entry. (key_of entry ≡ key) × valid entry)

-- the writer changed the nodes by one store, after which each chain goes up, and unlinked every
-- node to which no live node leads. So a section sees the entries as they were, or as they are
pub record IsByOneStore (before after : Watching Planned) : Type 0 where
  pub stored : List Node
  pub one : IsOneStore (nodes_in before.view.client.known) stored
  pub state : after ≡ after_store before stored (nodes_in after.view.client.known)
  pub led : AreLed (λ _ from to. GoesUp (buckets_in before) (seed_in before) from to) 1 stored
  pub collected : AreCollected (buckets_in before) 1 stored (nodes_in after.view.client.known)

-- so it made this change
pub record HasChanged (change : List Node → List Node → Type 0)
    (before after : Watching Planned) : Type 0 where
  pub by : IsByOneStore before after
  pub nodes : change (nodes_in before.view.client.known) (nodes_in after.view.client.known)

-- the entry of these words is in the map: it replaced the one that had its key, or was added if
-- none had it
abbrev pub IsPutIn : ℕ → List ℕ → Bool → List Node → List Node → Type 0
IsPutIn buckets words true before after = IsReplaced buckets before words after
IsPutIn buckets words false before after = IsInserted buckets before words after

-- the writer put the entry of these words in, with an entry of its key or without; or it did
-- nothing
abbrev pub HasPutIn : ℕ → List ℕ → Bool → Bool → Watching Planned → Watching Planned → Type 0
HasPutIn buckets words there true before after =
    HasChanged (IsPutIn buckets words there) before after
HasPutIn buckets words there false before after = after ≡ before

-- the writer had to put in an entry of this key and these words: it returned the entry that had the
-- key, and put the new one in if that was requested; or it was requested, and there was no room
pub record HasAnswered {E : Type 0} (decode : List ℕ → E) (valid : E → Type 0) (key_of : E → ℕ)
    (how : Put) (key : ℕ) (words : List ℕ) (before : Watching Planned)
    (result : Result (Option E) Full) (after : Watching Planned) : Type 0
  where
    pub same : IsOfSameGraph before after
    pub old : IfOk result (λ old.
        Holds decode valid key_of (buckets_in before) (nodes_in before.view.client.known) key
        old)
    pub put : IfOk result (λ old.
        HasPutIn (buckets_in before) words (is_some old) (is_put how (is_some old)) before after)
    pub room : IfOk result (λ old. is_put how (is_some old) ≡ true → ¬ LacksRoom before key)
    pub wanted : OnErr result (IsWanted how (buckets_in before) (nodes_in before.view.client.known)
        key)
    pub full : OnErr result (LacksRoom before key)
    pub unchanged : OnErr result (after ≡ before)
