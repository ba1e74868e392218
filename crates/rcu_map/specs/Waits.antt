-- The effect of a call that waits for a free node.
use Rattle.std.specs.Prelude.{◌≡◌, ℕ, Bool, true, false, List, Option, Err, Ok, Result, is_some}
use Rattle.rcu_seq.specs.declared.fault.Fault.TheVariants.{Exhausted}
use Rattle.rcu_live.specs.CpuSeat.{Seated}
use Rattle.rcu_live.specs.Watcher.{Watching}
use Rattle.rcu_graph.specs.Nodes.{nodes_in}
use Rattle.rcu_graph.specs.Puts.{IsFreeNode}
use Rattle.rcu_graph.specs.Tended.{AreAllUsed}
use Rattle.rcu_graph.specs.Waits.{HasStayed}
use Rattle.rcu_graph.specs.Waits as graph
use Rattle.rcu_graph.specs.declared.known.Planned.{Planned}
use Rattle.rcu_graph.specs.declared.known.Node.{Node}
use Rattle.rcu_map.specs.Chains.{buckets_in}
use Rattle.rcu_map.specs.Entries.{AreSameEntries}
use Rattle.rcu_map.specs.Puts.{HasChanged, Holds, IsPutIn, is_put}
use Rattle.rcu_map.specs.Room.{IsOneTooMany}
use Rattle.rcu_map.specs.declared.put.NotPut.{NotPut}
use Rattle.rcu_map.specs.declared.put.Put.{Put}
use Rattle.rcu_map.specs.declared.put.NotPut.TheVariants.{Fault, Full}

-- the writer waited until a node was free, and no entry changed
pub record HasMadeRoom {C : Type 0} (buckets : ℕ) (seat now : Seated C)
    (before after : Watching Planned) : Type 0 where
  pub made : graph.HasMadeRoom seat now before after
  pub entries : AreSameEntries buckets (nodes_in before.view.client.known)
      (nodes_in after.view.client.known)

-- it gave the wait up, and no entry changed
pub record HasGivenUp {C : Type 0} (buckets : ℕ) (seat now : Seated C)
    (before after : Watching Planned) : Type 0 where
  pub gave_up : graph.HasGivenUp seat now before after
  pub entries : AreSameEntries buckets (nodes_in before.view.client.known)
      (nodes_in after.view.client.known)

-- the result of a wait for room for an entry of this key, outside of sections: the entry is one too
-- many, and nothing happened; or it is not, and then a node is free, or the wait was given up
abbrev pub WaitedFor : {C : Type 0} → ℕ → Seated C → Seated C → Watching Planned
    → Result (Unit {0}) NotPut → Watching Planned → Type 0
WaitedFor key seat now before (Ok _) after =
    (¬ IsOneTooMany before key) × HasMadeRoom (buckets_in before) seat now before after
WaitedFor key seat now before (Err Full) after =
    IsOneTooMany before key × HasStayed seat now before after
WaitedFor key seat now before (Err (Fault fault)) after =
    (¬ IsOneTooMany before key)
    × (fault ≡ Exhausted)
    × HasGivenUp (buckets_in before) seat now before after

-- the writer waited for a free node, and then made this change
pub record HasChangedLater {C : Type 0} (change : List Node → List Node → Type 0) (buckets : ℕ)
    (seat now : Seated C) (before after : Watching Planned) : Type 0 where
  pub looked : Watching Planned
  pub waited : HasMadeRoom buckets seat now before looked
  pub changed : HasChanged change looked after

-- the writer of a caller with this seat, which is outside of sections, made this change: at once if
-- a node was free, and otherwise as soon as one was
pub record HasChangedInTime {C : Type 0} (change : List Node → List Node → Type 0) (buckets : ℕ)
    (seat now : Seated C) (before after : Watching Planned) : Type 0 where
  pub outside : seat.depth ≡ 0
  pub no_wait : (node : ℕ) → IsFreeNode (nodes_in before.view.client.known) node → now ≡ seat
  pub at_once : (node : ℕ) → IsFreeNode (nodes_in before.view.client.known) node
      → HasChanged change before after
  pub waited : AreAllUsed (nodes_in before.view.client.known)
      → HasChangedLater change buckets seat now before after

-- the writer of such a caller put the entry of these words in like this, with an entry of its key
-- or without; or nothing happened
abbrev pub HasPutInTime : {C : Type 0} → ℕ → List ℕ → Bool → Bool → Seated C → Seated C
    → Watching Planned → Watching Planned → Type 0
HasPutInTime buckets words there true seat now before after =
    HasChangedInTime (IsPutIn buckets words there) buckets seat now before after
HasPutInTime buckets words there false seat now before after =
    (seat.depth ≡ 0) × HasStayed seat now before after

-- the writer of such a caller had to put in an entry of this key and these words: it returned the
-- entry that had the key, and put the new one in if that was requested
pub record HasAnsweredInTime {C E : Type 0} (decode : List ℕ → E) (valid : E → Type 0)
    (key_of : E → ℕ) (how : Put) (key : ℕ) (words : List ℕ) (seat now : Seated C)
    (before : Watching Planned) (old : Option E) (after : Watching Planned) : Type 0
  where
    pub had : Holds decode valid key_of (buckets_in before) (nodes_in before.view.client.known) key
        old
    pub put : HasPutInTime (buckets_in before) words (is_some old) (is_put how (is_some old)) seat
        now before after
