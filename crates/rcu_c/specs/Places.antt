-- The places of an engine's seats, as contracts see them.
use Rattle.std.specs.Prelude.{◌≡◌, ℕ, ◌<◌, Bool, true, false, Option, Some, None, is_some, ⊤}
use Rattle.rcu_defer.specs.DeferList.{list_at_first}
use Rattle.rcu_graph.specs.Nodes.{IsReader}
use Rattle.rcu_graph.specs.Planned.{of_plan}
use Rattle.rcu_graph.specs.declared.known.Known.TheVariants.{Idle}
use Rattle.rcu_live.specs.CpuSeat.{at_first}
use Rattle.rcu_live.specs.Watcher.{watcher_at_first}
use Rattle.rcu_live.specs.Words.{base_of}
use Rattle.rcu_request.specs.Requests.{requester_at_first}
use Rattle.rcu_c.specs.Links.{no_links}
use Rattle.rcu_c.specs.Seats.{Seat, Shared, Words}
use Rattle.rcu_c.specs.declared.places.FreshSeat.{FreshSeat}
use Rattle.rcu_c.specs.declared.places.Place.{Place}
use Rattle.rcu_c.specs.declared.places.Place.TheVariants.{Fresh, Dealt, Kept}

-- the whole seat that is made of one that no thread has had
abbrev pub fresh_seat : Shared → FreshSeat → Seat
fresh_seat s fresh = record {
  words = s.words;
  cpu = fresh.cpu;
  watcher = fresh.watcher;
  values = list_at_first;
  links = no_links;
  requester = requester_at_first s.requests;
  identity = s.identity;
}

-- a seat that no thread has had is one of the engine with these words
pub record IsFreshOf (words : Words) (fresh : FreshSeat) : Type 0 where
  pub cpu : fresh.cpu.table ≡ words.table
  pub watcher : fresh.watcher.table ≡ words.table
  pub inside : fresh.cpu.cpu < words.cpus
  pub base : fresh.cpu.view.base ≡ base_of words.cpus
  pub planned : fresh.cpu.view.client.plan ≡ words.plan
  pub reads : IsReader fresh.cpu.view.client.known
  pub outside : fresh.cpu.depth ≡ 0

-- a place is one of the engine with these words
abbrev pub IsPlaceOf : Words → Place → Type 0
IsPlaceOf words (Fresh fresh) = IsFreshOf words fresh
IsPlaceOf words Dealt = ⊤
IsPlaceOf words (Kept room) = ⊤

-- the seat that can be dealt from a place of an engine whose seats share this
abbrev pub seat_in : Shared → Place → Option Seat
seat_in s (Fresh fresh) = Some (fresh_seat s fresh)
seat_in s Dealt = None
seat_in s (Kept room) = room.value

-- there is one
abbrev pub has_seat : Place → Bool
has_seat (Fresh fresh) = true
has_seat Dealt = false
has_seat (Kept room) = is_some room.value

-- it is one that no thread has had
abbrev pub is_fresh : Place → Bool
is_fresh (Fresh fresh) = true
is_fresh Dealt = false
is_fresh (Kept room) = false

-- the place of a processor's seat as an engine is opened
abbrev pub place_at_first : Words → ℕ → Place
place_at_first words cpu = Fresh (record {
  cpu = at_first words.table (base_of words.cpus) (of_plan words.plan Idle) cpu;
  watcher = watcher_at_first words.table (base_of words.cpus) (of_plan words.plan Idle);
})
