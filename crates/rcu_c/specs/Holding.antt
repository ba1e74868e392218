-- The contents of a handle: the engine or the seat of an open one, and their changes by calls.
use Rattle.std.specs.Prelude.{◌≡◌, ℕ, ◌≤◌, ◌-◌, ◌^◌, [], List, take, Option, Some, None, ⊤}
use Rattle.atomic_table.specs.Seated.{TableId}
use Rattle.rcu_node.specs.CpuSet.{is_in}
use Rattle.rcu_state.specs.GpState.{Grace}
use Rattle.rcu_state.specs.GpState.{which}
use Rattle.rcu_seq.specs.Numbers.{Number}
use Rattle.rcu_live.specs.CpuSeat.{Seated, after_renew}
use Rattle.rcu_live.specs.Engine.{Locked}
use Rattle.rcu_live.specs.Watcher.{Watching, after_watch}
use Rattle.rcu_defer.specs.DeferList.{Deferring}
use Rattle.rcu_request.specs.Requests.{Requesting}
use Rattle.rcu_graph.specs.Planned.{plan_of}
use Rattle.rcu_graph.specs.declared.known.Planned.{Planned}
use Rattle.rcu_graph.specs.declared.plan.Plan.{Plan}
use Rattle.rcu_c.specs.Engines.{EngineAndSeats, opened_at_first}
use Rattle.rcu_c.specs.Seats.{Seat, closing, seat_at_first}
use Rattle.rcu_c.specs.declared.contents.Contents.{Contents}
use Rattle.rcu_c.specs.declared.identity.Identity.{Identity}
use Rattle.rcu_c.specs.declared.links.Links.{Links}
use Rattle.rcu_c.specs.declared.contents.Contents.TheVariants as contents

-- the handle is an open engine's
abbrev pub HoldsEngine : Option Contents → Type 0
HoldsEngine None = ⊥
HoldsEngine (Some (contents.Engine _)) = ⊤
HoldsEngine (Some (contents.Seat _)) = ⊥
HoldsEngine (Some (contents.Replica _)) = ⊥
HoldsEngine (Some contents.Room) = ⊥

-- the handle is an open seat's
abbrev pub HoldsSeat : Option Contents → Type 0
HoldsSeat None = ⊥
HoldsSeat (Some (contents.Engine _)) = ⊥
HoldsSeat (Some (contents.Seat _)) = ⊤
HoldsSeat (Some (contents.Replica _)) = ⊥
HoldsSeat (Some contents.Room) = ⊥

-- no object: the value for a handle without one
abbrev pub no_table : TableId
no_table = record {
  words = 0;
  slots = 0;
  views_name = 0;
  atom = 0;
  block = 0;
  offset = 0;
  slot_names = [];
}

-- no identity: the value for a handle without one
abbrev pub no_identity : Identity
no_identity = record { place = 0; count = 0 }

-- no map: the value for a handle without one
abbrev pub no_plan : Plan
no_plan = plan_of 0 0 0 0 0

-- no engine: it has no processor, and its number is 0
abbrev pub no_engine : EngineAndSeats
no_engine = opened_at_first no_identity no_table no_table no_plan 0 0

-- the engine of an engine's handle, and no engine of another
abbrev pub opened_of : Option Contents → EngineAndSeats
opened_of None = no_engine
opened_of (Some (contents.Engine o)) = o
opened_of (Some (contents.Seat _)) = no_engine
opened_of (Some (contents.Replica _)) = no_engine
opened_of (Some contents.Room) = no_engine

-- the running engine of an engine's handle
abbrev pub engine_of : Option Contents → Locked Planned ℕ
engine_of h = (opened_of h).engine

-- the state of its grace periods and callbacks
abbrev pub grace_of : Option Contents → Grace ℕ
grace_of h = (engine_of h).grace

-- the writer of its map
abbrev pub writer_of : Option Contents → Watching Planned
writer_of h = (opened_of h).map

-- the processors that an engine awaits, in order, the first of them up to a number
abbrev pub awaited_list : Locked Planned ℕ → ℕ → List ℕ
awaited_list e room = take room (which e.cpus (is_in e.grace.processors.awaited))

-- no processor: more than any engine has
abbrev pub no_cpu : ℕ
no_cpu = 2 ^ 32 - 1

-- no seat: it is of no processor, is offline, and has no section open
abbrev pub no_seat : Seat
no_seat = seat_at_first no_identity no_table no_table no_plan 0 no_cpu

-- the seat of a seat's handle, and no seat of another
abbrev pub seat_of : Option Contents → Seat
seat_of None = no_seat
seat_of (Some (contents.Engine _)) = no_seat
seat_of (Some (contents.Seat s)) = s
seat_of (Some (contents.Replica _)) = no_seat
seat_of (Some contents.Room) = no_seat

-- a cookie that is never done: no engine's number comes to it
abbrev pub never_done : ℕ
never_done = 2 ^ 64 - 1

-- its processor's seat
abbrev pub cpu_of : Option Contents → Seated Planned
cpu_of h = (seat_of h).cpu

-- its watcher
abbrev pub watcher_of : Option Contents → Watching Planned
watcher_of h = (seat_of h).watcher

-- the values that its thread deferred
abbrev pub values_of : Option Contents → Deferring ℕ
values_of h = (seat_of h).values

-- the links that its thread deferred
abbrev pub links_of : Option Contents → Links
links_of h = (seat_of h).links

-- its knowledge about requests
abbrev pub requester_of : Option Contents → Requesting
requester_of h = (seat_of h).requester

-- the knowledge of an engine's handle about requests
abbrev pub requests_of : Option Contents → Requesting
requests_of h = (opened_of h).requests

-- an engine's handle with its engine changed
abbrev pub on_opened : (EngineAndSeats → EngineAndSeats) → Option Contents → Option Contents
on_opened change h = Some (contents.Engine (change (opened_of h)))

-- an engine's handle with its running engine changed
abbrev pub on_engine : (Locked Planned ℕ → Locked Planned ℕ) → Option Contents
    → Option Contents
on_engine change = on_opened (λ o. record o { engine = change o.engine })

-- an engine's handle with the state of its grace periods and callbacks changed
abbrev pub on_grace : (Grace ℕ → Grace ℕ) → Option Contents → Option Contents
on_grace change = on_engine (λ e. record e { grace = change e.grace })

-- a seat's handle with its processor's seat changed
abbrev pub on_cpu : (Seated Planned → Seated Planned) → Option Contents → Option Contents
on_cpu change h = Some (contents.Seat (record (seat_of h) { cpu = change (cpu_of h) }))

-- a call of a seat was accepted at the number n, which is at least all that its processor's seat
-- saw before, and this is the seat after it
pub record AcceptedAt (after : Seated Planned → Number → Seated Planned) (h : Option Contents)
    (n : Number) (now : Option Contents) : Type 0 where
  pub state : now ≡ on_cpu (λ s. after s n) h
  pub later : (cpu_of h).view.seen ≤ n

-- a seat's section was renewed: a quiescent state was passed at the number n, which is at least all
-- that its processor's seat saw before, and the next section began at a number that is no less;
-- this is the seat after it
pub record RenewedAt (h : Option Contents) (n : Number) (now : Option Contents) : Type 0 where
  pub state : now ≡ on_cpu (λ s. after_renew closing s n (cpu_of now).view.seen) h
  pub later : (cpu_of h).view.seen ≤ n
  pub onward : n ≤ (cpu_of now).view.seen

-- a seat's handle with its values changed
abbrev pub on_values : (Deferring ℕ → Deferring ℕ) → Option Contents → Option Contents
on_values change h = Some (contents.Seat (record (seat_of h) { values = change (values_of h) }))

-- a seat's handle with its links changed
abbrev pub on_links : (Links → Links) → Option Contents → Option Contents
on_links change h = Some (contents.Seat (record (seat_of h) { links = change (links_of h) }))

-- a seat's handle with its watcher changed
abbrev pub on_watcher : (Watching Planned → Watching Planned) → Option Contents
    → Option Contents
on_watcher change h = Some (contents.Seat (record (seat_of h) { watcher = change (watcher_of h) }))

-- one more load of a seat's watcher, which saw n, at least all that it saw before
pub record WatchedAt (h : Option Contents) (n : Number) (now : Option Contents) : Type 0 where
  pub look : now ≡ on_watcher (λ w. after_watch w n) h
  pub later : (watcher_of h).view.seen ≤ n

-- the seat reads the words that this engine writes
pub record ReadsWordsOf (seat rcu : Option Contents) : Type 0 where
  pub table : (seat_of seat).words.table ≡ (engine_of rcu).table
  pub cpus : (seat_of seat).words.cpus ≡ (engine_of rcu).cpus

-- the seat reads the map of this engine's writer
pub record ReadsMapOf (seat rcu : Option Contents) : Type 0 where
  pub table : (seat_of seat).words.table ≡ (writer_of rcu).table
  pub plan : (seat_of seat).words.plan ≡ (writer_of rcu).view.client.plan

-- a seat's handle with its knowledge about requests changed
abbrev pub on_requester : (Requesting → Requesting) → Option Contents → Option Contents
on_requester change h =
    Some (contents.Seat (record (seat_of h) { requester = change (requester_of h) }))

-- an engine's handle with its knowledge about requests changed
abbrev pub on_requests : (Requesting → Requesting) → Option Contents → Option Contents
on_requests change = on_opened (λ o. record o { requests = change o.requests })
