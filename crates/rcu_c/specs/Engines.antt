-- The engine of an open handle, as contracts see it.
use Rattle.std.specs.Prelude.{ℕ, ◌^◌, ◌==◌, ◌&&◌, Bool, nat_lt, List, map, Option, Some, None}
use Rattle.std.specs.Prelude.{slice_index_or, slice_set}
use Rattle.std.specs.List.{range_with_len}
use Rattle.atomic_table.specs.Seated.{TableId}
use Rattle.rcu_seq.specs.Numbers.{Number}
use Rattle.rcu_live.specs.Engine.{Locked}
use Rattle.rcu_live.specs.Opening.{engine_at_first}
use Rattle.rcu_live.specs.Watcher.{Watching}
use Rattle.rcu_graph.specs.Opening.{writer_at_first}
use Rattle.rcu_graph.specs.Planned.{of_plan}
use Rattle.rcu_graph.specs.declared.known.Known.TheVariants.{Idle}
use Rattle.rcu_graph.specs.declared.known.Planned.{Planned}
use Rattle.rcu_graph.specs.declared.plan.Plan.{Plan}
use Rattle.rcu_map.specs.Keys.{root_words}
use Rattle.rcu_request.specs.Requests.{Requesting, requests_at_first}
use Rattle.rcu_c.specs.Seats.{Seat, seat_at_first}
use Rattle.rcu_c.specs.declared.identity.Identity.{Identity}

-- two identities are the same
abbrev pub is_same : Identity → Identity → Bool
is_same a b = (a.place == b.place) && (a.count == b.count)

-- the running engine, the seat of each processor, none if it is dealt, its knowledge about
-- requests, its identity, and the writer of its map
pub record EngineAndSeats : Type 0 where
  pub engine : Locked Planned ℕ
  pub seats : List (Option Seat)
  pub requests : Requesting
  pub identity : Identity
  pub map : Watching Planned

-- an engine takes a seat as one that it dealt: the seat has its identity, and one of its processors
abbrev pub is_own : EngineAndSeats → Seat → Bool
is_own o s = is_same o.identity s.identity && nat_lt s.cpu.cpu o.engine.cpus

-- the seat of a processor, if the processor exists and its seat is not dealt
abbrev pub seat_at : EngineAndSeats → ℕ → Option Seat
seat_at o cpu = slice_index_or o.seats cpu None

-- the seat of a processor is dealt
abbrev pub without_seat : EngineAndSeats → ℕ → EngineAndSeats
without_seat o cpu = record o { seats = slice_set o.seats cpu None }

-- a seat is returned: its processor's seat is not dealt
abbrev pub with_seat : EngineAndSeats → Seat → EngineAndSeats
with_seat o s = record o { seats = slice_set o.seats s.cpu.cpu (Some s) }

-- the limit of callbacks in an engine of C's: more than a program can queue
abbrev pub most_in_c : ℕ
most_in_c = 2 ^ 62

-- an engine of this number of processors as it is opened, with a seat for each, with these words,
-- these for requests, and a map of this plan
abbrev pub opened_at_first : Identity → TableId → TableId → Plan → ℕ → Number → EngineAndSeats
opened_at_first identity table requests plan cpus last = record {
  engine = engine_at_first table cpus last most_in_c (of_plan plan Idle);
  seats =
      map (λ cpu. Some (seat_at_first identity table requests plan cpus cpu))
      (range_with_len 0 cpus);
  requests = requests_at_first requests;
  identity = identity;
  map = writer_at_first (root_words plan.words) table cpus plan;
}
