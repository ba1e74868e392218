-- The parts of an opened engine.
use Rattle.std.specs.Prelude.{◌≡◌, ℕ, ◌≤◌, All, List, length, map}
use Rattle.std.specs.List.{range_with_len}
use Rattle.atomic_table.specs.Seated.{TableId}
use Rattle.rcu_seq.specs.Numbers.{Number}
use Rattle.rcu_state.specs.GpState as grace
use Rattle.rcu_live.specs.Board.{IsSized, Object}
use Rattle.rcu_live.specs.Engine.{Locked}
use Rattle.rcu_live.specs.CpuSeat.{IsSeatOf, Seated, at_first}
use Rattle.rcu_live.specs.View.{engine_seat}
use Rattle.rcu_live.specs.Watcher.{IsWatcherOf, Watching, watcher_at_first}
use Rattle.rcu_live.specs.Words.{base_of}

-- fanouts of an engine's tree: 2 to 64 each
pub record AreFanouts (leaf fan : ℕ) : Type 0 where
  pub leaf_least : 2 ≤ leaf
  pub leaf_most : leaf ≤ 64
  pub fan_least : 2 ≤ fan
  pub fan_most : fan ≤ 64

-- the state of an engine of this number of processors as it is opened, with this limit of
-- callbacks: idle at number 0, with processor 0 alone online
abbrev pub engine_at_first : {C X : Type 0} → TableId → ℕ → Number → ℕ → C → Locked C X
engine_at_first table cpus last most idle = record {
  table = table;
  cpus = cpus;
  view = engine_seat cpus cpus idle;
  grace = grace.at_first cpus last most;
}

module _ {C : Type 0} where
  -- the seats dealt by the opening of an engine of this number of processors, with this last number
  -- and this limit of callbacks, with `behind` words of a client behind its own: a seat and a
  -- watcher for each processor, in order, as they are at first
  pub record AreDealt {P : Type 0} (cpus : ℕ) (last : Number) (most behind : ℕ) (idle : C)
      (engine : Object P) (seats : List (Seated C)) (watchers : List (Watching C)) : Type 0 where
    pub size : IsSized cpus last most behind engine
    pub each_seat : seats ≡ map (at_first engine.table (base_of cpus) idle) (range_with_len 0 cpus)
    pub each_watcher : watchers
        ≡ map (λ _. watcher_at_first engine.table (base_of cpus) idle) (range_with_len 0 cpus)
    -- so there are this many, each is of this engine and reads its words, no section is open, and
    -- each has the knowledge of a dealt seat about the client
    pub seat_count : length seats ≡ cpus
    pub watcher_count : length watchers ≡ cpus
    pub seats_read : All (λ seat. seat.table ≡ engine.table) seats
    pub watchers_read : All (λ watcher. watcher.table ≡ engine.table) watchers
    pub are_seats : All (IsSeatOf engine) seats
    pub are_watchers : All (IsWatcherOf engine) watchers
    pub outside : All (λ seat. seat.depth ≡ 0) seats
    pub know : All (λ seat. seat.view.client ≡ idle) seats

  -- all parts of an engine as it is opened: its words and seats, its state, and the client's own
  -- watcher
  pub record IsOpened {X P : Type 0} (cpus : ℕ) (last : Number) (most behind : ℕ)
      (first idle : C) (engine : Object P) (state : Locked C X) (seats : List (Seated C))
      (watchers : List (Watching C)) (own : Watching C) : Type 0 where
    pub dealt : AreDealt cpus last most behind idle engine seats watchers
    pub at_start : state ≡ engine_at_first engine.table cpus last most idle
    pub alone : own ≡ watcher_at_first engine.table (base_of cpus) first
