-- A driver that sleeps until a processor reports a quiescent state.
use Rattle.std.specs.Prelude.{◌≡◌, ◌==◌, ℕ, Bool, false, if◌then◌else◌, Option, Some, None}
use Rattle.rcu_node.specs.CpuSet.{is_in}
use Rattle.rcu_state.specs.GpState.{awaited_in}
use Rattle.rcu_live.specs.Drive.{moved_on}
use Rattle.rcu_live.specs.Engine.{Locked}
use Rattle.rcu_live.specs.NextCpu.{IsNextFrom}
use Rattle.rcu_graph.specs.declared.known.Planned.{Planned}
use Rattle.rcu_request.specs.Requests.{after_naming, cpu_word}
use Rattle.rcu_c.specs.Engines.{EngineAndSeats}

-- the driver said for which processor it sleeps, and collected from each awaited processor
abbrev pub after_saying : EngineAndSeats → ℕ → (ℕ → ℕ) → EngineAndSeats
after_saying o word words = record o {
  engine = moved_on o.engine false words;
  requests = after_naming o.requests word;
}

-- the first processor that an engine awaits, or none if it awaits none
abbrev pub IsFirst : Locked Planned ℕ → Option ℕ → Type 0
IsFirst e None = (cpu : ℕ) → is_in e.grace.processors.awaited cpu ≡ false
IsFirst e (Some cpu) = IsNextFrom e.grace.processors.awaited 0 cpu

-- an engine awaits a processor, if one is given
abbrev pub awaits : Locked Planned ℕ → Option ℕ → Bool
awaits e None = false
awaits e (Some cpu) = is_in e.grace.processors.awaited cpu

-- the driver sleeps for the first processor that was awaited, if one is still awaited, and else for
-- none; it may sleep if that first one is still awaited
pub record IsForFirst (e now : Locked Planned ℕ) (word : ℕ) (sleeps : Bool) : Type 0 where
  pub cpu : Option ℕ
  pub first : IsFirst e cpu
  pub says : word ≡ cpu_word (if awaited_in now.grace == 0 then None else cpu)
  pub may : sleeps ≡ (if awaited_in now.grace == 0 then false else awaits now cpu)
