-- The result of an update that waits.
use Rattle.std.proofs.Common.{◌≡◌, ◌∙◌, ℕ, List, ap}
use Rattle.std.specs.Prelude.{slice_index}
use Rattle.rcu_live.specs.CpuSeat.{Seated}
use Rattle.rcu_live.specs.Watcher.{Watching}
use Rattle.rcu_graph.specs.Nodes.{nodes_in}
use Rattle.rcu_graph.specs.Tended.{AreAllUsed}
use Rattle.rcu_graph.specs.Waits.{HasMadeRoom}
use Rattle.rcu_graph.specs.declared.known.Planned.{Planned}
use Rattle.rcu_graph.proofs.Looks.{reclaimed_nodes}
use Rattle.rcu_cell.specs.Cell.{slot_of}
use Rattle.rcu_cell.specs.Writer.{Updated}
use Rattle.rcu_cell.specs.Waits.{UpdatedInTime}
use Rattle.rcu_cell.specs.declared.writer.Retired.{Retired}

-- no slot was free, and then one was: the current slot is the same
pub updated_later : {C : Type 0} (seat now : Seated C) (before looked : Watching Planned)
    (words : List ℕ) (retired : Retired) (after : Watching Planned)
    → seat.depth ≡ 0
    → AreAllUsed (nodes_in before.view.client.known)
    → HasMadeRoom seat now before looked
    → Updated looked words retired after
    → UpdatedInTime seat now before words retired after
updated_later seat now before looked words retired after outside full room updated = record {
  outside = outside;
  replaced =
      updated.replaced
      ∙ ap (λ (cells : List ℕ). slot_of (slice_index cells 0))
      ((reclaimed_nodes before looked room.looked).links 0);
  no_wait = λ slot free. absurd (full slot free.inside free.free);
  at_once = λ slot free. absurd (full slot free.inside free.free);
  waited = λ _. record { looked = looked; waited = room; updated = updated };
}
