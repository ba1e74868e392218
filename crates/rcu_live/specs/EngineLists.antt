-- The engine's processors that come and go, and its callbacks: the engine after each call, and why
-- the call is refused.
use Rattle.std.specs.Prelude.{◌≡◌, ℕ, ◌≤◌, ◌^◌, ◌&&◌, Bool, true, false, nat_le, nat_lt, not}
use Rattle.std.specs.Prelude.{if◌then◌else◌, List, [], ◌∷◌, All, Option, length}
use Rattle.rcu_seq.specs.Fault.{first_fault}
use Rattle.rcu_seq.specs.declared.fault.Fault.{Fault}
use Rattle.rcu_seq.specs.declared.fault.Fault.TheVariants as fault
use Rattle.rcu_node.specs.CpuSet.{is_in}
use Rattle.rcu_hotplug.specs.Hotplug.{Arrive, Depart}
use Rattle.rcu_cblist.specs.SegList.{is_empty}
use Rattle.rcu_cblist.specs.declared.items.Queued.{Queued}
use Rattle.rcu_barrier.specs.Lists.{list_of, queue_fault}
use Rattle.rcu_state.specs.GpState.{Grace, after_migrate, with_call}
use Rattle.rcu_live.specs.Engine.{HasWaited, Locked}
use Rattle.rcu_live.specs.Numbers.{is_number_word}
use Rattle.rcu_live.specs.View.{after_own_word_load}
use Rattle.rcu_live.specs.Words.{own_word_index}

module _ {X : Type 0} where
  -- the processor is online: it arrived, if no begin had found it
  abbrev pub with_arrival : Grace X → ℕ → Grace X
  with_arrival g cpu = if is_in g.processors.online cpu then g else with_call g (Arrive cpu)

  -- the processor is offline: it departed, if no begin had found it gone
  abbrev pub with_departure : Grace X → ℕ → Grace X
  with_departure g cpu = if is_in g.processors.online cpu then with_call g (Depart cpu) else g

module _ {C X : Type 0} where
  -- with the state of grace periods and callbacks changed
  abbrev pub on_grace : (Grace X → Grace X) → Locked C X → Locked C X
  on_grace change e = record e { grace = change e.grace }

  -- after one load of the processor's own word, which found this word
  abbrev pub after_load_own : Locked C X → ℕ → ℕ → Locked C X
  after_load_own e cpu word = record e {
    view = after_own_word_load e.view (own_word_index cpu) word;
  }

  -- why a leave that found this word is refused: the processor is online; or it was offline
  -- already, and its list is empty
  abbrev pub leave_refusal : Locked C X → ℕ → Bool → ℕ → Option Fault
  leave_refusal e cpu again word =
      first_fault ((nat_lt 0 word, fault.AlreadyOnline)
      ∷ (again && is_empty (list_of e.grace.lists cpu), fault.Offline) ∷ [])

  -- after a join: the processor arrived
  abbrev pub after_join : Locked C X → ℕ → Locked C X
  after_join e cpu = on_grace (λ g. with_arrival g cpu) e

  -- after a leave whose migration was refused memory: the processor departed, and its list stays
  abbrev pub after_departure : Locked C X → ℕ → ℕ → Locked C X
  after_departure e cpu word = on_grace (λ g. with_departure g cpu) (after_load_own e cpu word)

  -- after a leave: the processor departed, and its list moved to processor 0
  abbrev pub after_leave : Locked C X → ℕ → ℕ → Locked C X
  after_leave e cpu word =
      on_grace (λ g. after_migrate (with_departure g cpu) cpu) (after_load_own e cpu word)

  -- why a callback is not queued: the processor is not online in the engine, the limit is reached,
  -- or memory was refused
  abbrev pub queue_refusal : Locked C X → ℕ → Fault
  queue_refusal e cpu =
      if is_in e.grace.processors.online cpu then queue_fault e.grace.lists else fault.Offline

  -- why a barrier visits no processor: the processor does not exist, or no barrier runs
  abbrev pub visit_refusal : Locked C X → ℕ → Option Fault
  visit_refusal e cpu =
      first_fault
      ((nat_le e.cpus cpu, fault.BadCpu) ∷ (not e.grace.lists.running, fault.NoBarrier) ∷ [])

-- these callbacks may be handed out at this number, at most `most` of them: a full grace period has
-- passed since each was queued. The number is one that the number word may have
pub record AreDue {X : Type 0} (number most : ℕ) (calls : List (Queued X)) : Type 0 where
  pub waited : All (λ call. HasWaited number call.at) calls
  pub few : length calls ≤ most
  pub bounded : number ≤ 2 ^ 62
  pub word : is_number_word number ≡ true

-- the faults that a departure may have under the lock
abbrev pub is_leave_fault : Fault → Bool
is_leave_fault fault.AlreadyOnline = true
is_leave_fault fault.Offline = true
is_leave_fault fault.NoMemory = true
is_leave_fault _ = false

-- the faults that a queue call may have under the lock
abbrev pub is_queue_fault : Fault → Bool
is_queue_fault fault.Offline = true
is_queue_fault fault.CallbacksFull = true
is_queue_fault fault.NoMemory = true
is_queue_fault _ = false

-- the faults of a run, and of a visit
abbrev pub is_run_fault : Fault → Bool
is_run_fault fault.BadCpu = true
is_run_fault fault.NoMemory = true
is_run_fault _ = false

abbrev pub is_visit_fault : Fault → Bool
is_visit_fault fault.BadCpu = true
is_visit_fault fault.NoBarrier = true
is_visit_fault fault.NoMemory = true
is_visit_fault _ = false
