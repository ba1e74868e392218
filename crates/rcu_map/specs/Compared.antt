-- The effect of an update of an entry that has to be as it was read.
use Rattle.std.specs.Prelude.{◌≡◌, ℕ, true, List, Option, Some, None, Result, Ok, Err, IfOk, OnErr}
use Rattle.std.specs.Prelude.{OnOk}
use Rattle.rcu_live.specs.Watcher.{Watching}
use Rattle.rcu_graph.specs.Graph.{IsOfSameGraph}
use Rattle.rcu_graph.specs.Nodes.{nodes_in}
use Rattle.rcu_graph.specs.declared.writer.Full.{Full}
use Rattle.rcu_graph.specs.declared.known.Planned.{Planned}
use Rattle.rcu_graph.specs.declared.known.Node.{Node}
use Rattle.rcu_map.specs.Chains.{buckets_in}
use Rattle.rcu_map.specs.Entries.{HasEntry, IsRemoved}
use Rattle.rcu_map.specs.Puts.{HasChanged, Holds, IsPutIn}
use Rattle.rcu_map.specs.Room.{IsNoneFreeYet}
use Rattle.rcu_map.specs.declared.compared.Compared.{Compared}
use Rattle.rcu_map.specs.declared.compared.Compared.TheVariants.{Changed, Gone, Same}
use Rattle.rcu_map.specs.Keys.{key_in}

-- the entry of this key has these words, as when it was read
pub record IsAsRead (buckets : ℕ) (nodes : List Node) (key : ℕ) (words : List ℕ) : Type 0 where
  pub has : HasEntry buckets nodes words
  pub is : key_in words ≡ key

-- the words of the entry that has the key, if there is one
abbrev pub words_found : Compared → List ℕ → Option (List ℕ)
words_found Same words = Some words
words_found Changed words = Some words
words_found Gone words = None

-- the same for a call that may find no node free
abbrev pub compared : Result Compared Full → List ℕ → Result (Option (List ℕ)) Full
compared (Ok found) words = Ok (words_found found words)
compared (Err full) words = Err full

-- the writer had to replace the entry of this key by one of these words, if that is as it was read:
-- it returned the entry that had the key, and replaced it if it was as it was read; or it was, and
-- no node was free yet
pub record HasComparedToReplace {E : Type 0} (decode : List ℕ → E) (valid : E → Type 0)
    (key_of : E → ℕ) (key : ℕ) (read words : List ℕ) (before : Watching Planned)
    (result : Result (Option E) Full) (after : Watching Planned) : Type 0
  where
    pub same : IsOfSameGraph before after
    pub old : IfOk result (λ old.
        Holds decode valid key_of (buckets_in before) (nodes_in before.view.client.known) key
        old)
    pub replaced : OnOk result
        (IsAsRead (buckets_in before) (nodes_in before.view.client.known) key read
        → HasChanged (IsPutIn (buckets_in before) words true) before after)
    pub stays : OnOk result
        (¬ IsAsRead (buckets_in before) (nodes_in before.view.client.known) key read
        → after ≡ before)
    pub room : OnOk result
        (IsAsRead (buckets_in before) (nodes_in before.view.client.known) key read
        → ¬ IsNoneFreeYet (nodes_in before.view.client.known))
    pub wanted : OnErr result
        (IsAsRead (buckets_in before) (nodes_in before.view.client.known) key read)
    pub full : OnErr result (IsNoneFreeYet (nodes_in before.view.client.known))
    pub unchanged : OnErr result (after ≡ before)

-- the writer had to remove the entry of this key, if it is as it was read: it returned the entry
-- that had the key, and removed it if it was as it was read
pub record HasComparedToRemove {E : Type 0} (decode : List ℕ → E) (valid : E → Type 0)
    (key_of : E → ℕ) (key : ℕ) (read : List ℕ) (before : Watching Planned)
    (old : Option E) (after : Watching Planned) : Type 0
  where
    pub same : IsOfSameGraph before after
    pub had : Holds decode valid key_of (buckets_in before) (nodes_in before.view.client.known) key
        old
    pub removed : IsAsRead (buckets_in before) (nodes_in before.view.client.known) key read
        → HasChanged (λ b a. IsRemoved (buckets_in before) b key a) before after
    pub stays : (¬ IsAsRead (buckets_in before) (nodes_in before.view.client.known) key read)
        → after ≡ before
