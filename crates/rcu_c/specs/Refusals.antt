-- Why a call that names a seat, or the seat of a processor, is refused.
use Rattle.std.specs.Prelude.{◌≡◌, ◌<◌, true, ℕ, Option, Some, None, if◌then◌else◌, is_none, nat_le}
use Rattle.std.specs.Prelude.{Err, Ok, Result}
use Rattle.rcu_seq.specs.Memory.{tested_fault}
use Rattle.rcu_seq.specs.declared.fault.Fault.{Fault}
use Rattle.rcu_seq.specs.declared.fault.Fault.TheVariants.{BadCpu}
use Rattle.rcu_node.specs.CpuSet.{is_in}
use Rattle.rcu_live.specs.CpuSeat.{arrive_refusal, depart_refusal}
use Rattle.rcu_live.specs.Engine.{Locked}
use Rattle.rcu_graph.specs.declared.known.Planned.{Planned}
use Rattle.rcu_c.specs.Engines.{EngineAndSeats, is_own, seat_at}
use Rattle.rcu_c.specs.Holding.{cpu_of, opened_of, seat_of}
use Rattle.rcu_c.specs.declared.contents.Contents.{Contents}
use Rattle.rcu_c.specs.declared.refusal.Refusal.{Refusal}
use Rattle.rcu_c.specs.declared.refusal.Refusal.TheVariants.{Engine, SeatDealt, OtherEngine, Closed}
use Rattle.rcu_c.specs.declared.refusal.Refusal.TheVariants.{OtherKind}
use Rattle.rcu_c.specs.declared.contents.Contents.TheVariants as contents
use Rattle.rcu_c.specs.Answers.{number_or}

-- a processor's callback can be queued: the processor exists, it is online in the engine, and its
-- list has room
pub record CanQueue (e : Locked Planned ℕ) (cpu : ℕ) : Type 0 where
  pub inside : cpu < e.cpus
  pub online : is_in e.grace.processors.online cpu ≡ true
  pub room : e.grace.lists.queued < e.grace.lists.most

-- why a handle is not taken as an engine's: it is closed; it is of the other kind
abbrev pub engine_refusal : Option Contents → Option Refusal
engine_refusal None = Some Closed
engine_refusal (Some (contents.Engine _)) = None
engine_refusal (Some (contents.Seat _)) = Some OtherKind
engine_refusal (Some (contents.Replica _)) = Some OtherKind
engine_refusal (Some contents.Room) = Some OtherKind

-- why a handle is not taken as a seat's
abbrev pub seat_refusal : Option Contents → Option Refusal
seat_refusal None = Some Closed
seat_refusal (Some (contents.Engine _)) = Some OtherKind
seat_refusal (Some (contents.Seat _)) = None
seat_refusal (Some (contents.Replica _)) = Some OtherKind
seat_refusal (Some contents.Room) = Some OtherKind

-- the number that a call of an engine's handle returns: why the handle is not taken, or else this
abbrev pub engine_number : Option Contents → ℕ → ℕ
engine_number rcu number = number_or (engine_refusal rcu) number

-- the number that a call of a seat's handle returns: why the handle is not taken, or else this
abbrev pub seat_number : Option Contents → ℕ → ℕ
seat_number seat number = number_or (seat_refusal seat) number

-- the first of two refusals
abbrev pub first_of : Option Refusal → Option Refusal → Option Refusal
first_of None later = later
first_of (Some first) later = Some first

-- the engine's fault, if it has one
abbrev pub by_engine : Option Fault → Option Refusal
by_engine None = None
by_engine (Some fault) = Some (Engine fault)

-- the refusal that a call's tests found, before it asked for memory: none if it is accepted, or if
-- memory is refused
abbrev pub tested_refusal : {A : Type 0} → Result A Refusal → Option Refusal
tested_refusal (Ok value) = None
tested_refusal (Err (Engine fault)) = by_engine (tested_fault {A = Unit {0}} (Err fault))
tested_refusal (Err refusal) = Some refusal

-- why an engine does not take a seat: the engine's handle is not taken as one; the seat's is not;
-- the seat is of another engine; or else this
abbrev pub if_own : Option Contents → Option Contents → Option Fault → Option Refusal
if_own rcu seat fault =
    first_of (engine_refusal rcu) (first_of (seat_refusal seat)
    (if is_own (opened_of rcu) (seat_of seat) then by_engine fault else Some OtherEngine))

-- why a seat's processor does not come online
abbrev pub coming_refusal : Option Contents → Option Contents → Option Refusal
coming_refusal rcu seat = if_own rcu seat (arrive_refusal (cpu_of seat))

-- why a seat does not go offline
abbrev pub going_refusal : Option Contents → Option Contents → Option Refusal
going_refusal rcu seat = if_own rcu seat (depart_refusal (cpu_of seat))

-- why a seat is not taken back
abbrev pub return_refusal : Option Contents → Option Contents → Option Refusal
return_refusal rcu seat = if_own rcu seat None

-- why the seat of a processor is not dealt: the processor does not exist; its seat is dealt
abbrev pub deal_refusal : EngineAndSeats → ℕ → Option Refusal
deal_refusal o cpu =
    if nat_le o.engine.cpus cpu then Some (Engine BadCpu)
    else (if is_none (seat_at o cpu) then Some SeatDealt else None)
