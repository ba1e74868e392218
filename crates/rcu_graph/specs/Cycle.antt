-- The nodes in the order of their lives: a stack of the free ones, and a queue of the retired ones,
-- the first retired in front, and the unlinked ones behind them.
use Rattle.std.specs.Prelude.{◌≡◌, ◌+◌, ◌<◌, ◌≤◌, if◌then◌else◌, ℕ, Bool, true, false, List, length}
use Rattle.std.specs.Prelude.{slice_index, slice_index_or, slice_set, sum_by}
use Rattle.rcu_seq.specs.Numbers.{Number}
use Rattle.rcu_live.specs.Numbers.{is_past}
use Rattle.rcu_graph.specs.Counts.{one_if}
use Rattle.rcu_graph.specs.declared.node_state.NodeState.{NodeState}
use Rattle.rcu_graph.specs.declared.node_state.NodeState.TheVariants.{Free, Live, Retired, Unlinked}

-- the state of the node i
abbrev pub state_in : List NodeState → ℕ → NodeState
state_in states i = slice_index_or states i Free

-- how many states pass the test
abbrev pub how_many : (NodeState → Bool) → List NodeState → ℕ
how_many is states = sum_by (λ s. one_if (is s)) states

-- it was unlinked, and is not free yet
abbrev pub IsGone : NodeState → Type 0
IsGone Free = ⊥
IsGone Live = ⊥
IsGone Unlinked = Unit {0}
IsGone (Retired number) = Unit {0}

abbrev pub is_idle : NodeState → Bool
is_idle Free = true
is_idle Live = false
is_idle Unlinked = true
is_idle (Retired number) = true

-- the node i is free and has the height k, and conversely
abbrev pub IsFreeAt : List NodeState → List ℕ → ℕ → ℕ → Type 0
IsFreeAt states heights k i =
    (i < length states) × (state_in states i ≡ Free) × (slice_index heights i ≡ k)

abbrev pub StandsIn : List ℕ → ℕ → ℕ → Type 0
StandsIn list k i = (k < length list) × (slice_index list k ≡ i)

-- the stack has each free node at its height, and nothing else
pub record IsStack (states : List NodeState) (free heights : List ℕ) : Type 0 where
  pub many : length heights ≡ length states
  pub holds : (k : ℕ) → k < length free → IsFreeAt states heights k (slice_index free k)
  pub home : (i : ℕ) → i < length states → state_in states i ≡ Free
      → StandsIn free (slice_index heights i) i

-- if the first ones of a queue are retired, a node in this state may be in it at the index k
abbrev pub StandsAt : ℕ → NodeState → ℕ → Type 0
StandsAt retired Free k = ⊥
StandsAt retired Live k = ⊥
StandsAt retired Unlinked k = retired ≤ k
StandsAt retired (Retired number) k = k < retired

-- each node that is gone waits in a queue, once: no node that was retired later is in front of one
-- that was retired before
pub record IsQueue (states : List NodeState) (waiting : List ℕ) (retired : ℕ) : Type 0 where
  pub fit : retired ≤ length waiting
  pub inside : (k : ℕ) → k < length waiting → slice_index waiting k < length states
  pub stands : (k : ℕ) → k < length waiting
      → StandsAt retired (state_in states (slice_index waiting k)) k
  pub once : (j k : ℕ)
      → j < length waiting → k < length waiting → slice_index waiting j ≡ slice_index waiting k
      → j ≡ k
  pub found : (i : ℕ) → i < length states → IsGone (state_in states i)
      → (k : ℕ) × StandsIn waiting k i
  pub ordered : (j k : ℕ) (a b : Number)
      → j ≤ k
      → k < length waiting
      → state_in states (slice_index waiting j) ≡ Retired a
      → state_in states (slice_index waiting k) ≡ Retired b
      → a ≤ b

-- each node that is not live is in the stack or in the queue
pub record IsCycle (states : List NodeState) (free heights waiting : List ℕ) (retired : ℕ)
    : Type 0 where
  pub stack : IsStack states free heights
  pub queue : IsQueue states waiting retired
  pub many : length free + length waiting ≡ how_many is_idle states

-- it was retired a full grace period ago
abbrev pub is_over : Number → NodeState → Bool
is_over number Free = false
is_over number Live = false
is_over number Unlinked = false
is_over number (Retired at) = is_past at number

abbrev pub is_unlinked : NodeState → Bool
is_unlinked Free = false
is_unlinked Live = false
is_unlinked Unlinked = true
is_unlinked (Retired number) = false

-- each state that passes a test is turned into another one
abbrev pub turned : (NodeState → Bool) → NodeState → NodeState → NodeState
turned is to state = if is state then to else state

-- one state that passes the test was turned, and nothing else changed; or none was, and none passes
abbrev pub IsTurn : (NodeState → Bool) → NodeState → List NodeState → List NodeState → Bool → Type 0
IsTurn is to old new true =
    (i : ℕ) × (i < length old) × (is (state_in old i) ≡ true) × (new ≡ slice_set old i to)
IsTurn is to old new false = (new ≡ old) × ((i : ℕ) → i < length old → is (state_in old i) ≡ false)
