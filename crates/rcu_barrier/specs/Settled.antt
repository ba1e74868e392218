-- The calls that delay the waiting callbacks of a processor's list.
use Rattle.std.specs.Prelude.{ℕ, ◌==◌, Bool, true, false}
use Rattle.rcu_barrier.specs.Runs.{Call, Queue, Tend, Run, Migrate, BarrierBegin, Visit}
use Rattle.rcu_barrier.specs.Runs.{BarrierTest, Renumber}

module _ {X : Type 0} where
  -- the call moves the processor's list to another, or renumbers: the callbacks that waited there
  -- have to wait for a new number
  abbrev pub unsettles : ℕ → Call X → Bool
  unsettles cpu (Migrate c) = c == cpu
  unsettles cpu Renumber = true
  unsettles cpu (Queue c at value) = false
  unsettles cpu (Tend c number) = false
  unsettles cpu (Run c most) = false
  unsettles cpu BarrierBegin = false
  unsettles cpu (Visit c) = false
  unsettles cpu BarrierTest = false
