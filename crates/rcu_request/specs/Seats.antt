-- Seats at the table of words.
use Rattle.std.specs.Prelude.{◌≡◌}
use Rattle.atomic_table.specs.declared.shared.Seat.{Seat}
use Rattle.rcu_request.specs.declared.knowledge.Knowledge.{Knowledge}

-- a seat took a step: it is at its table, and the relation of the step holds for its knowledge
-- before and after
pub record Stepped (tells : Knowledge → Knowledge → Type 0)
    (old new : Seat (Unit {0}) Knowledge) : Type 0 where
  pub table : new.table_id ≡ old.table_id
  pub told : tells old.me.0 new.me.0
