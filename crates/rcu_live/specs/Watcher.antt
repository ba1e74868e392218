-- Watchers.
use Rattle.std.specs.Prelude.{◌≡◌, ℕ, ◌+◌, ◌≤◌, true}
use Rattle.atomic_table.specs.Seated.{TableId}
use Rattle.rcu_seq.specs.Numbers.{Number}
use Rattle.rcu_live.specs.Board.{Object}
use Rattle.rcu_live.specs.Numbers.{is_number_word}
use Rattle.rcu_live.specs.View.{after_load, watcher_seat, with_client}
use Rattle.rcu_live.specs.declared.view.View.{View}

-- a watcher: its object, and its view
pub record Watching (C : Type 0) : Type 0 where
  pub table : TableId
  pub view : View C

module _ {C : Type 0} where
  -- a watcher of this engine: it reads the engine's words, and knows where the client's words begin
  abbrev pub IsWatcherOf : {P : Type 0} → Object P → Watching C → Type 0
  IsWatcherOf engine watcher =
      (watcher.table ≡ engine.table) × (watcher.view.base ≡ engine.base)

  -- after one more load, which saw n
  abbrev pub after_watch : Watching C → Number → Watching C
  after_watch w n = record w { view = after_load w.view n }

  -- after a client's step, which left this knowledge
  abbrev pub after_word_step : Watching C → C → Watching C
  after_word_step w c = record w { view = with_client w.view c }

  -- after a client's load of the number, which saw n and left this knowledge
  abbrev pub after_number_step : Watching C → Number → C → Watching C
  after_number_step w n c = record w { view = with_client (after_load w.view n) c }

  -- one more load, which saw n, at least all that the watcher saw before
  pub record WatchedAt (w : Watching C) (n : Number) (x : Watching C) : Type 0 where
    pub state : x ≡ after_watch w n
    pub later : w.view.seen ≤ n

  -- a client's step, with this relation between the watcher's knowledge before and after: nothing
  -- else of the watcher changes
  pub record KnowsBy (tells : C → C → Type 0) (w x : Watching C) : Type 0 where
    pub state : x ≡ after_word_step w x.view.client
    pub told : tells w.view.client x.view.client

  -- a client's load of the number n, at least all that the watcher saw before, with this relation
  -- between the knowledge before and after
  pub record KnowsAt (tells : C → Number → C → Type 0) (w : Watching C) (n : Number)
      (x : Watching C) : Type 0 where
    pub state : x ≡ after_number_step w n x.view.client
    pub later : w.view.seen ≤ n
    pub number : is_number_word n ≡ true
    pub told : tells w.view.client n x.view.client

  -- the watcher is of the same object, and made this many more loads
  pub record HasWatched (loads : ℕ) (w x : Watching C) : Type 0 where
    pub table : x.table ≡ w.table
    pub watched : x.view.loads ≡ w.view.loads + loads

  -- a watcher as it is opened
  abbrev pub watcher_at_first : TableId → ℕ → C → Watching C
  watcher_at_first table base c = record { table = table; view = watcher_seat base c }
