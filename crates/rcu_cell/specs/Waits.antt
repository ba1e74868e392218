-- The effect of an update that waits for a free slot.
use Rattle.std.specs.Prelude.{◌≡◌, ℕ, List}
use Rattle.rcu_live.specs.CpuSeat.{Seated}
use Rattle.rcu_live.specs.Watcher.{Watching}
use Rattle.rcu_graph.specs.Nodes.{nodes_in}
use Rattle.rcu_graph.specs.Puts.{IsFreeNode}
use Rattle.rcu_graph.specs.Tended.{AreAllUsed}
use Rattle.rcu_graph.specs.Waits.{HasMadeRoom}
use Rattle.rcu_graph.specs.declared.known.Planned.{Planned}
use Rattle.rcu_cell.specs.Writer.{Updated}
use Rattle.rcu_cell.specs.Versions.{shown_in}
use Rattle.rcu_cell.specs.declared.writer.Retired.{Retired}

-- the writer waited until a slot was free, and then published the words in one
pub record UpdatedLater {C : Type 0} (seat now : Seated C) (before : Watching Planned)
    (words : List ℕ) (retired : Retired) (after : Watching Planned) : Type 0 where
  pub looked : Watching Planned
  pub waited : HasMadeRoom seat now before looked
  pub updated : Updated looked words retired after

-- an update of a caller with this seat, which is outside of sections, replaced the current slot: at
-- once if a slot was free, and otherwise as soon as one was
pub record UpdatedInTime {C : Type 0} (seat now : Seated C) (before : Watching Planned)
    (words : List ℕ) (retired : Retired) (after : Watching Planned) : Type 0 where
  pub outside : seat.depth ≡ 0
  pub replaced : retired.slot ≡ shown_in (nodes_in before.view.client.known)
  pub no_wait : (slot : ℕ) → IsFreeNode (nodes_in before.view.client.known) slot → now ≡ seat
  pub at_once : (slot : ℕ) → IsFreeNode (nodes_in before.view.client.known) slot
      → Updated before words retired after
  pub waited : AreAllUsed (nodes_in before.view.client.known)
      → UpdatedLater seat now before words retired after
