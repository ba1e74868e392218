-- An iterator over the entries of a map, as contracts see it.
use Rattle.std.specs.Prelude.{◌≡◌, ℕ, List, Option, IfSome, MatchOption}
use Rattle.std.specs.Borrow.{GName}
use Rattle.rcu_live.specs.Board.{Object}
use Rattle.rcu_live.specs.CpuSeat.{Seated, after_word_step}
use Rattle.rcu_live.specs.Several.{Lens}
use Rattle.rcu_live.specs.declared.within.Within as within
use Rattle.rcu_graph.specs.Planned.{knowing}
use Rattle.rcu_graph.specs.declared.known.Known.{Known}
use Rattle.rcu_graph.specs.declared.known.Planned.{Planned}
use Rattle.rcu_graph.specs.declared.plan.Plan.{Plan}
use Rattle.rcu_graph.specs.declared.rule.GraphRule.{GraphRule}
use Rattle.rcu_graph.specs.declared.value.Invariant as fact
use Rattle.rcu_graph.specs.declared.value.Value as value
use Rattle.rcu_map.specs.Listing.{IsAtEnd, IsNextEntry}
use Rattle.rcu_map.specs.declared.cursor.Cursor.{Cursor}
use Rattle.rcu_map.specs.declared.entries.Entries.{Entries}
use Rattle.rcu_map.specs.declared.entry.Entry as entry
use Rattle.rcu_map.specs.declared.shape.MapShape.{MapShape}

-- the map, the seat whose section reads it, which seat is borrowed (a name that distinguishes
-- borrowed seats), and its cursor
pub record Listing (D : Type 0) : Type 0 where
  pub map : Object Plan
  pub seat : Seated D
  pub name : GName
  pub at : Cursor

abbrev pub listing : {E : Type 0} {width : ℕ} {P W A D : Type 0} {entry : entry.Ghosts E width}
    {value : value.Ghosts E width} {fact : fact.Ghosts E}
    {place : within.Ghosts P (GraphRule (MapShape E width)) W A D Plan Planned}
    → Entries E width P W A D entry value fact place → Listing D
listing s = record { map = s.map.now; seat = s.seat.now; name = s.seat.ghost_name; at = s.at }

module _ {D : Type 0} (lens : Lens D Planned) where
  -- after hops to a cursor, which left the section this knowledge about the map
  abbrev pub after_hops : Listing D → Known → Cursor → Listing D
  after_hops s known at = record s {
    seat = after_word_step s.seat
        (lens.set s.seat.view.client (knowing (lens.get s.seat.view.client) known));
    at = at;
  }

  -- the knowledge of its section about the map
  abbrev pub known_in : Listing D → Known
  known_in s = (lens.get s.seat.view.client).known

  -- a call went on to the next entry, for which the user's fact holds, or to the end if it returned
  -- none. Nothing changes but the section's knowledge and the cursor
  pub record Listed {E : Type 0} (holds : List ℕ → Type 0) (decode : List ℕ → E)
      (valid : E → Type 0) (key_of : E → ℕ) (old : Listing D) (result : Option E)
      (new : Listing D) : Type 0 where
    pub same : new ≡ after_hops old (known_in new) new.at
    pub went : MatchOption result
        (IsAtEnd old.map.plan.roots old.map.plan.seed (known_in old) old.at (known_in new) new.at)
        (λ entry. IsNextEntry holds decode old.map.plan.roots old.map.plan.seed (known_in old)
        old.at (known_in new) new.at entry)
    pub keyed : IfSome result (λ entry. key_of entry ≡ new.at.key)
    pub sound : IfSome result valid
