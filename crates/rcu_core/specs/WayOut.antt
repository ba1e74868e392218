-- The way out of a running grace period, event by event.
use Rattle.std.specs.Prelude.{ℕ, ◌+◌, ◌≡◌, true, if◌then◌else◌, List, [], ◌∷◌, Option, None, Some}
use Rattle.std.specs.Prelude.{◌++◌, nat_lt, replicate}
use Rattle.std.specs.List.{find, flat_map, range_with_len}
use Rattle.rcu_core.specs.History.{History, running}
use Rattle.rcu_core.specs.Progress.{HasEnded, SurelyLeads, retires, steps_left}
use Rattle.rcu_core.specs.Replies.{Size}
use Rattle.rcu_core.specs.Situation.{Situation, situation}
use Rattle.rcu_core.specs.declared.event.Event.{Event}
use Rattle.rcu_core.specs.declared.event.Event.TheVariants.{Exit, End, Idle, Scan}

-- the first awaited processor, by its number
abbrev pub first_awaited : Size → Situation → Option ℕ
first_awaited s v = find v.cpus.awaits (range_with_len 0 s.cpus)

-- the next event of an awaited processor: an exit while a section of it is open, then a step to
-- idle, and the scan that finds it idle
abbrev pub retiring_event_of : Situation → ℕ → Event
retiring_event_of v cpu =
    if nat_lt 0 (v.cpus.depth cpu)
    then Exit cpu
    else (if v.cpus.idle cpu then Scan cpu else Idle cpu)

-- the next event for an awaited processor, or the end if there is none
abbrev pub retiring_event_for : Situation → Option ℕ → Event
retiring_event_for v None = End
retiring_event_for v (Some cpu) = retiring_event_of v cpu

-- the next event of the way out: none if no grace period runs
abbrev pub next_retiring_event : Size → Situation → Option Event
next_retiring_event s v =
    if v.periods.running then Some (retiring_event_for v (first_awaited s v)) else None

-- the events of a processor, if it is awaited: an exit for each open enter, one to go idle if it is
-- not, and the scan that finds it idle
abbrev pub retiring_events_of : Situation → ℕ → List Event
retiring_events_of v cpu =
    if v.cpus.awaits cpu
    then replicate (v.cpus.depth cpu) (Exit cpu)
    ++ ((if v.cpus.idle cpu then [] else Idle cpu ∷ []) ++ Scan cpu ∷ [])
    else []

-- the whole way out: the events of each processor, by their numbers, and the end
abbrev pub way_out : Size → Situation → List Event
way_out s v = flat_map (retiring_events_of v) (range_with_len 0 s.cpus) ++ End ∷ []

-- how many events take an awaited processor out of the running grace period
abbrev pub retiring_steps_of : Situation → ℕ → ℕ
retiring_steps_of v cpu = v.cpus.depth cpu + (if v.cpus.idle cpu then 1 else 2)

-- how many events the way out has: none if no grace period runs
abbrev pub steps_out : Size → History → ℕ
steps_out s h = if running h then steps_left s h else 0

-- an event is a step of the way out: it is none but an exit, a step to idle, a scan or the end, it
-- can not be refused, for want of memory either, one step fewer is left after it, and if it is the
-- end, then the grace period has ended
pub record IsStepOut (s : Size) (h : History) (e : Event) : Type 0 where
  pub retires : retires e ≡ true
  pub leads : SurelyLeads s h (e ∷ []) (e ∷ h)
  pub fewer : steps_out s (e ∷ h) + 1 ≡ steps_out s h
  pub ended : e ≡ End → HasEnded h (e ∷ h)

-- each of these events is the next one of the way out, and it has no further one
abbrev pub IsWayOut : Size → History → List Event → History → Type 0
IsWayOut s h [] g = (g ≡ h) × (next_retiring_event s (situation h) ≡ None)
IsWayOut s h (e ∷ events) g =
    (next_retiring_event s (situation h) ≡ Some e) × IsWayOut s (e ∷ h) events g
