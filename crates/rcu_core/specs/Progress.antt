-- Which events lead from a history to the end of its grace period, and how many are left.
use Rattle.std.specs.Prelude.{ℕ, ◌+◌, ◌≡◌, ◌≢◌, ◌⊎◌, Bool, true, false, if◌then◌else◌, List, []}
use Rattle.std.specs.Prelude.{◌∷◌, ◌++◌, ◌≤◌, ◌<◌, count_by, length, sum_by}
use Rattle.std.specs.List.{list_all, range_with_len}
use Rattle.rcu_seq.specs.Tags.{cookie_at, is_done_at}
use Rattle.rcu_seq.specs.declared.fault.Fault.{Fault}
use Rattle.rcu_seq.specs.declared.fault.Fault.TheVariants.{NoMemory}
use Rattle.rcu_core.specs.Callbacks.{barrier_runs, queue_count, times_handed_out}
use Rattle.rcu_core.specs.History.{History, awaits, depth, ends, ends_in_epoch, epoch, is_idle}
use Rattle.rcu_core.specs.History.{is_of, report_at, reports_made, running, tag_now}
use Rattle.rcu_core.specs.Replies.{Size, IsLegalReply, with_event}
use Rattle.rcu_core.specs.Situation.{situation}
use Rattle.rcu_core.specs.declared.event.Event.{Event}
use Rattle.rcu_core.specs.declared.event.Event.TheVariants.{Enter, Exit, Deliver, End, Idle, Wake}
use Rattle.rcu_core.specs.declared.event.Event.TheVariants.{Scan}
use Rattle.rcu_core.specs.declared.reply.Reply.{Reply}
use Rattle.rcu_core.specs.declared.reply.Reply.TheVariants as reply

-- these events, in this order, lead from a history to another with any legal replies, and none of
-- them is refused, not even for lack of memory
abbrev pub SurelyLeads : Size → History → List Event → History → Type 0
SurelyLeads s h [] g = g ≡ h
SurelyLeads s h (e ∷ events) g =
    (r : Reply) → IsLegalReply s (situation h) e r
    → ((fault : Fault) → r ≢ reply.Fault fault) × SurelyLeads s (with_event h e r) events g

-- the same if no reply is that of refused memory
abbrev pub LeadsWithMemory : Size → History → List Event → History → Type 0
LeadsWithMemory s h [] g = g ≡ h
LeadsWithMemory s h (e ∷ events) g =
    (r : Reply) → IsLegalReply s (situation h) e r → r ≢ reply.Fault NoMemory
    → ((fault : Fault) → r ≢ reply.Fault fault) × LeadsWithMemory s (with_event h e r) events g

-- the running grace period has ended, and none runs: exactly one more has ended in the epoch
pub record HasEnded (h reached : History) : Type 0 where
  pub idle : running reached ≡ false
  pub one_more : ends_in_epoch reached ≡ ends_in_epoch h + 1
  pub epoch : epoch reached ≡ epoch h

-- how many events take an awaited processor out of the running grace period: an exit for each open
-- enter, one to go idle if it is not, and the scan that finds it idle
abbrev pub steps_of : History → ℕ → ℕ
steps_of h cpu = if awaits cpu h then depth cpu h + (if is_idle cpu h then 1 else 2) else 0

-- how many events end the running grace period: those of each processor, and its end
abbrev pub steps_left : Size → History → ℕ
steps_left s h = sum_by (steps_of h) (range_with_len 0 s.cpus) + 1

-- the event takes one of the steps that are left of an awaited processor
abbrev pub helps : Event → History → Bool
helps (Exit cpu) h = awaits cpu h
helps (Idle cpu) h = awaits cpu h
helps (Scan cpu) h = awaits cpu h
helps _ h = false

-- the event adds a step to those of an awaited processor
abbrev pub hinders : Event → History → Bool
hinders (Enter cpu) h = awaits cpu h
hinders (Wake cpu) h = awaits cpu h
hinders _ h = false

-- how many of the later events pass a test, which sees the history before each
abbrev pub how_often : (Event → History → Bool) → History → History → ℕ
how_often test [] h = 0
how_often test (e ∷ later) h = (if test e (later ++ h) then 1 else 0) + how_often test later h

-- the processor has made a report of the current tag, delivered or not
abbrev pub HasReported : ℕ → History → Type 0
HasReported cpu h =
    (place : ℕ) × (is_of cpu (tag_now h) (report_at place (reports_made h)) ≡ true)

-- the processor is quiet: it is idle, or has made a report of the current tag
abbrev pub IsQuiet : ℕ → History → Type 0
IsQuiet cpu h = (is_idle cpu h ≡ true) ⊎ HasReported cpu h

-- the event is an exit, a step to idle, a scan or the end
abbrev pub retires : Event → Bool
retires (Exit cpu) = true
retires (Idle cpu) = true
retires (Scan cpu) = true
retires End = true
retires _ = false

-- the event is a delivery, a scan or the end
abbrev pub collects : Event → Bool
collects (Deliver place) = true
collects (Scan cpu) = true
collects End = true
collects _ = false

-- exactly this many events, which all pass a test, end the running grace period, and none of them
-- is refused
pub record EndsBy (test : Event → Bool) (s : Size) (h : History) (count : ℕ) : Type 0 where
  pub events : List Event
  pub reached : History
  pub leads : SurelyLeads s h events reached
  pub ended : HasEnded h reached
  pub each : list_all test events ≡ true
  pub many : length events ≡ count

-- some events, none of which is refused, lead to a history in which a cookie taken now tests done,
-- and at most two grace periods end among them
pub record CanFinishCookie (s : Size) (h : History) : Type 0 where
  pub events : List Event
  pub reached : History
  pub leads : SurelyLeads s h events reached
  pub done : is_done_at s.last (cookie_at (tag_now h)) (tag_now reached) ≡ true
  pub ends : count_by ends reached ≤ count_by ends h + 2

-- some events, none of which fails unless memory is refused, lead to a history in which each
-- callback queued so far was handed out, and at most two grace periods end among them
pub record CanDrain (s : Size) (h : History) : Type 0 where
  pub events : List Event
  pub reached : History
  pub leads : LeadsWithMemory s h events reached
  pub out : (ord : ℕ) → 0 < ord → ord ≤ queue_count h → times_handed_out ord reached ≡ 1
  pub ends : count_by ends reached ≤ count_by ends h + 2

-- some events, none of which fails unless memory is refused, lead to a test that finds the running
-- barrier done, and at most two grace periods end among them
pub record CanFinishBarrier (s : Size) (h : History) : Type 0 where
  pub events : List Event
  pub reached : History
  pub leads : LeadsWithMemory s h events reached
  pub done : barrier_runs reached ≡ false
  pub ends : count_by ends reached ≤ count_by ends h + 2
