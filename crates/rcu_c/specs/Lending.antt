-- The value of an open handle after the borrow of its contents has ended.
use Rattle.std.specs.Prelude.{Some}
use Rattle.std.specs.Borrow.{Fml, Lends, LendsIfOk, MutBor}
use Rattle.std.specs.declared.result.Result.{Result}
use Rattle.rcu_report.specs.Replica.{Replicated}
use Rattle.rcu_c.specs.Engines.{EngineAndSeats}
use Rattle.rcu_c.specs.Seats.{Seat}
use Rattle.rcu_c.specs.declared.handle.Handle.{Handle}
use Rattle.rcu_c.specs.declared.contents.Contents.{Contents}
use Rattle.rcu_c.specs.declared.contents.Contents.TheVariants as contents
use Rattle.rcu_c.specs.declared.refusal.Refusal.{Refusal}
use Rattle.rcu_c.specs.contracts.handle.Handle as handle
use Rattle.rcu_c.specs.contracts.contents.Contents as holding
use Rattle.rcu_c.specs.contracts.open_engine.OpenEngine as engine
use Rattle.rcu_c.specs.contracts.seat_parts.SeatParts as seat_parts
use Rattle.rcu_c.specs.contracts.dealt_seat.DealtSeat as dealt_seat
use Rattle.rcu_c.specs.contracts.engine_box.EngineBox as engine_box
use Rattle.rcu_c.specs.contracts.open_replica.OpenReplica as replica

-- the handle has these contents
abbrev pub with_contents : Handle → Contents → Handle
with_contents h contents = record { at = h.at; alloc = h.alloc; contents = Some contents }

-- a handle lends its contents
abbrev pub lends_contents : MutBor Handle → MutBor Contents → Fml
lends_contents h lent = Lends handle.the_row holding.the_row h lent (with_contents h.now)

-- an engine's handle lends its engine
abbrev pub lends_engine : MutBor Handle → MutBor EngineAndSeats → Fml
lends_engine h lent =
    Lends handle.the_row engine.the_row h lent (λ o. with_contents h.now (contents.Engine o))

-- a seat's handle lends its seat
abbrev pub lends_seat : MutBor Handle → MutBor Seat → Fml
lends_seat h lent =
    Lends handle.the_row seat_parts.the_row h lent (λ s. with_contents h.now (contents.Seat s))

-- a replica's handle lends its replica
abbrev pub lends_replica : MutBor Handle → MutBor Replicated → Fml
lends_replica h lent =
    Lends handle.the_row replica.the_row h lent (λ r. with_contents h.now (contents.Replica r))

-- a handle lends its engine if it has one, and otherwise stays as it is
abbrev pub lends_engine_if_ok : MutBor Handle → Result (MutBor EngineAndSeats) Refusal → Fml
lends_engine_if_ok h lent = LendsIfOk handle.the_row engine.the_row h lent
    (λ o. with_contents h.now (contents.Engine o)) h.now

-- a handle lends its seat if it has one, and otherwise stays as it is
abbrev pub lends_seat_if_ok : MutBor Handle → Result (MutBor Seat) Refusal → Fml
lends_seat_if_ok h lent = LendsIfOk handle.the_row seat_parts.the_row h lent
    (λ s. with_contents h.now (contents.Seat s)) h.now

-- a handle lends its replica if it has one, and otherwise stays as it is
abbrev pub lends_replica_if_ok : MutBor Handle → Result (MutBor Replicated) Refusal → Fml
lends_replica_if_ok h lent = LendsIfOk handle.the_row replica.the_row h lent
    (λ r. with_contents h.now (contents.Replica r)) h.now

-- a dealt seat lends its parts
abbrev pub lends_parts : MutBor Seat → MutBor Seat → Fml
lends_parts seat lent = Lends dealt_seat.the_row seat_parts.the_row seat lent (λ s. s)

-- an engine in a box is lent
abbrev pub lends_boxed : MutBor EngineAndSeats → MutBor EngineAndSeats → Fml
lends_boxed boxed lent = Lends engine_box.the_row engine.the_row boxed lent (λ o. o)
