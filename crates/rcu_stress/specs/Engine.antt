-- The calls of an engine that take its lock, as workers make them.
use Rattle.std.specs.Prelude.{ℕ, List}
use Rattle.rcu_cblist.specs.declared.items.Queued.{Queued}
use Rattle.rcu_state.specs.declared.gp_state.Turned.{Turned}
use Rattle.rcu_live.specs.declared.grace_periods.Collected.{Collected}

-- a call, and the engine's answer: a collection of a processor; a turn; a tend of a processor, with
-- how many of its callbacks are done and how many wait; a queue call at a processor with a value,
-- with how many callbacks were queued; a run of a processor with a limit, with the number and the
-- callbacks handed out; a departure, with how many callbacks moved
pub data LockedAnswer : Type 0 where
  Collecting : (cpu : ℕ) → Collected → LockedAnswer
  Turning : Turned → LockedAnswer
  Tending : (cpu : ℕ) → ℕ × ℕ → LockedAnswer
  Queueing : (cpu value count : ℕ) → LockedAnswer
  Running : (cpu most number : ℕ) → List (Queued ℕ) → LockedAnswer
  Departing : (moved : ℕ) → LockedAnswer
