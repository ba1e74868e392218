-- A loaded version, as contracts see it.
use Rattle.std.specs.Prelude.{◌≡◌, ℕ, List}
use Rattle.std.specs.Borrow.{GName}
use Rattle.rcu_live.specs.Board.{Object}
use Rattle.rcu_live.specs.CpuSeat.{Seated, after_word_step}
use Rattle.rcu_live.specs.Several.{Lens}
use Rattle.rcu_live.specs.declared.within.Within as within
use Rattle.rcu_graph.specs.declared.known.Planned.{Planned}
use Rattle.rcu_graph.specs.declared.plan.Plan.{Plan}
use Rattle.rcu_graph.specs.declared.rule.GraphRule.{GraphRule}
use Rattle.rcu_graph.specs.declared.value.Invariant as fact
use Rattle.rcu_cell.specs.Cell.{version_in}
use Rattle.rcu_cell.specs.declared.shape.OneLink.{OneLink}
use Rattle.rcu_cell.specs.declared.shape.Version as version
use Rattle.rcu_cell.specs.declared.version_guard.VersionGuard.{VersionGuard}

-- the cell, the seat whose section reads the version, the slot that it stays in, and which seat is
-- borrowed: a name that distinguishes borrowed seats
pub record Lent (D : Type 0) : Type 0 where
  pub cell : Object Plan
  pub seat : Seated D
  pub slot : ℕ
  pub name : GName

module _ {D : Type 0} (lens : Lens D Planned) where
  -- the words that it had when it was loaded, of a cell with this first version
  abbrev pub version_lent : List ℕ → Lent D → List ℕ
  version_lent first loaded = version_in first (lens.get loaded.seat.view.client).known

  -- a version of this cell is lent, by the borrowed seat of this name, in which only the knowledge
  -- about the cell has changed
  pub record IsLentBy (cell : Object Plan) (seat : Seated D) (name : GName)
      (loaded : Lent D) : Type 0 where
    pub of_cell : loaded.cell ≡ cell
    pub by_name : loaded.name ≡ name
    pub state : loaded.seat ≡ after_word_step seat
        (lens.set seat.view.client (lens.get loaded.seat.view.client))

abbrev pub lent : {F : Type 0} {width : ℕ} {P W A D : Type 0} {version : version.Ghosts F width}
    {fact : fact.Ghosts F}
    {place : within.Ghosts P (GraphRule (OneLink F width)) W A D Plan Planned}
    → VersionGuard F width P W A D version fact place → Lent D
lent loaded = record {
  cell = loaded.cell.now;
  seat = loaded.seat.now;
  slot = loaded.slot;
  name = loaded.seat.ghost_name;
}
