-- A worker of a torture run: the meaning of its words, and its actions in a round.
use Rattle.std.specs.Prelude.{◌≡◌, ℕ, ◌+◌, ◌*◌, ◌/◌, ◌%◌, ◌<◌, ◌≤◌, ◌==◌, ◌&&◌, ◌⊎◌, Bool, false}
use Rattle.std.specs.Prelude.{not, true, if◌then◌else◌, All, IsSomeAnd, List, length, map}
use Rattle.std.specs.List.{range_with_len}
use Rattle.rand_pcg.specs.Lcg.{Lcg}
use Rattle.rand_pcg.specs.Pcg.{pcg32}
use Rattle.rcu_live.specs.Board.{Object}
use Rattle.rcu_live.specs.CpuSeat.{Seated}
use Rattle.rcu_live.specs.Watcher.{Watching}
use Rattle.rcu_live.specs.declared.engine_lists.Ran.{Ran}
use Rattle.rcu_stress.specs.Draws.{generator_of}
use Rattle.rcu_stress.specs.Engine.{LockedAnswer, Collecting, Departing, Queueing, Running}
use Rattle.rcu_stress.specs.Engine.{Tending, Turning}
use Rattle.rcu_stress.specs.Ledger.{Counts, after_run, most_in_round}
use Rattle.rcu_stress.specs.declared.engine.RoundAnswers.{RoundAnswers}
use Rattle.rcu_stress.specs.declared.gate.Point.{Point}
use Rattle.rcu_stress.specs.declared.gate.Point.TheVariants.{Entered, Polled}
use Rattle.rcu_stress.specs.declared.job.RunSettings.{RunSettings}

-- a worker: its number, the settings of its run, the generator of its words, the seat of its
-- processor and its watcher
pub record Worker : Type 0 where
  pub worker : ℕ
  pub settings : RunSettings
  pub draws : Lcg
  pub seat : Seated (Unit {0})
  pub watcher : Watching (Unit {0})

-- a seat and a watcher of this engine for each of this number of workers; the seats are of the
-- workers' processors, in order
pub record AreOfWorkers (engine : Object (Unit {0})) (workers : ℕ)
    (seats : List (Seated (Unit {0})))
    (watchers : List (Watching (Unit {0}))) : Type 0 where
  pub seat_count : length seats ≡ workers
  pub watcher_count : length watchers ≡ workers
  pub each_seat : All (λ seat. seat.table ≡ engine.table) seats
  pub cpus : map (λ seat. seat.cpu) seats ≡ range_with_len 0 workers
  pub each_watcher : All (λ watcher. watcher.table ≡ engine.table) watchers

-- the jobs of a run with these settings: its workers', in order, each with the draws of the seed
-- and of its worker
pub record AreJobs (settings : RunSettings) (jobs : List Worker) : Type 0 where
  pub workers : map (λ job. job.worker) jobs ≡ range_with_len 0 settings.workers
  pub each_settings : All (λ job. job.settings ≡ settings) jobs
  pub each_draws : All (λ job. job.draws ≡ generator_of settings.seed job.worker) jobs

-- the word of a worker's next round
abbrev pub word_of : Worker → ℕ
word_of w = (pcg32 w.draws).0

-- the id of the callback that a worker queues in a round, by the number of rounds
abbrev pub id_of : ℕ → ℕ → ℕ → ℕ
id_of worker rounds round = worker * rounds + round

-- the processor, of this number of them, that a worker collects from in a round, by its word
abbrev pub other_by : ℕ → ℕ → ℕ
other_by workers word = word / 8 % workers

-- a worker goes offline and online again in a round, by its word: processor 0 never does
abbrev pub leaves_by : ℕ → ℕ → Bool
leaves_by worker word = not (worker == 0) && (word / 4 % 8 == 0)

-- a worker becomes idle and wakes at the end of a round, by its word
abbrev pub sleeps_by : ℕ → Bool
sleeps_by word = word / 64 % 4 == 0

-- how often a worker's seat stores in a round, by its word: once to pass a quiescent state, twice
-- to go offline and come back, and twice to become idle and wake
abbrev pub stores_by : ℕ → ℕ → ℕ
stores_by worker word =
    1 + (if leaves_by worker word then 2 else 0) + (if sleeps_by word then 2 else 0)

-- how often a worker's watcher has loaded the number in a round when it comes to a place of it: not
-- yet if the section is open and no cookie is taken; twice if the cookie was taken and polled
abbrev pub looks_by : Point → ℕ
looks_by Entered = 0
looks_by Polled = 2

-- a gate that may give these answers stopped a worker at a place of a round
abbrev pub IsStopped : (ℕ → Point → Bool → Type 0) → ℕ → Type 0
IsStopped answers worker = answers worker Entered false ⊎ answers worker Polled false

-- the seat is the same one, and has stored nothing since
pub record HasStoredNothing (before after : Seated (Unit {0})) : Type 0 where
  pub table : after.table ≡ before.table
  pub cpu : after.cpu ≡ before.cpu
  pub stored : after.view.stores ≡ before.view.stores

-- a worker read: the gate let it pass at both places of its section, which is closed; its watcher
-- loaded the number twice, and its seat passed a quiescent state
pub record HasRead (answers : ℕ → Point → Bool → Type 0) (before after : Worker) : Type 0 where
  pub entered : answers before.worker Entered true
  pub polled : answers before.worker Polled true
  pub looked : after.watcher.view.loads ≡ before.watcher.view.loads + 2
  pub closed : after.seat.depth ≡ 0
  pub stored : after.seat.view.stores ≡ before.seat.view.stores + 1

-- a run of a processor, with a limit, got this answer for a worker whose seat had stored this
-- often, and was recorded
pub record HasHandedOut (answers : ℕ → LockedAnswer → Type 0) (stores cpu most : ℕ)
    (before after : Counts) (ran : Ran ℕ) : Type 0 where
  pub answered : answers stores (Running cpu most ran.number ran.calls.items)
  pub few : length ran.calls.items ≤ most
  pub taken : after ≡ record (after_run before ran.number ran.calls.items) { room = after.room }

-- a round in which the gate let the worker pass, its additions to the share, and the engine's
-- answers. After its seat had passed a quiescent state, the worker queued the round's callback,
-- collected from the processor of its word, turned, and tended and ran its own callbacks; then it
-- left, if its word says so
pub record HasPassed (answers : ℕ → LockedAnswer → Type 0) (before : Worker) (counts : Counts)
    (round : ℕ) (after : Worker) (now : Counts) (told : RoundAnswers) : Type 0 where
  pub counted : now.queued ≡ counts.queued + 1
  pub looked : after.watcher.view.loads ≡ before.watcher.view.loads + 2
  pub stored : after.seat.view.stores
      ≡ before.seat.view.stores + stores_by before.worker (word_of before)
  pub queued : answers (before.seat.view.stores + 1)
      (Queueing before.worker (id_of before.worker before.settings.rounds round) told.queued)
  pub collected : answers (before.seat.view.stores + 1)
      (Collecting (other_by before.settings.workers (word_of before)) told.driving.collected)
  pub turned : answers (before.seat.view.stores + 1) (Turning told.driving.turned)
  pub tended : answers (before.seat.view.stores + 1) (Tending before.worker told.driving.tended)
  pub handed_out : answers (before.seat.view.stores + 1)
      (Running before.worker most_in_round told.ran.number told.ran.calls.items)
  pub departed : leaves_by before.worker (word_of before) ≡ true
      → IsSomeAnd told.moved (λ moved. answers (before.seat.view.stores + 1) (Departing moved))

-- a round in which a gate that may give these answers stopped the worker: it counted nothing but an
-- early cookie
pub record HasStopped (answers : ℕ → Point → Bool → Type 0) (worker : ℕ) (counts now : Counts)
    : Type 0 where
  pub stopped : IsStopped answers worker
  pub kept : now ≡ record counts { early = now.early }
