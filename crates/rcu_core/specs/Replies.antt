-- Which replies are legal to an event after a history.
use Rattle.std.specs.Prelude.{ℕ, ◌+◌, ◌-◌, ◌≡◌, ◌⊎◌, ◌==◌, Bool, true, false, not, ◌&&◌, nat_lt}
use Rattle.std.specs.Prelude.{nat_le, if◌then◌else◌, List, [], ◌∷◌, length, count_by, map, sum_by}
use Rattle.std.specs.Prelude.{Option, Some, None, is_none}
use Rattle.std.specs.List.{range_with_len}
use Rattle.rcu_seq.specs.Numbers.{Number, is_last, number_at, same_number}
use Rattle.rcu_seq.specs.Tags.{cookie_at, is_done_at, last_epoch, same_tag}
use Rattle.rcu_seq.specs.Fault.{first_fault}
use Rattle.rcu_seq.specs.declared.fault.Fault.{Fault}
use Rattle.rcu_seq.specs.declared.fault.Fault.TheVariants as fault
use Rattle.rcu_node.specs.declared.awaited.Answer.{Answer}
use Rattle.rcu_node.specs.declared.awaited.Answer.TheVariants.{Taken, Last, Repeat, Stale}
use Rattle.rcu_report.specs.declared.batch.Report.{Report}
use Rattle.rcu_cpu.specs.CpuData.{deepest}
use Rattle.rcu_cblist.specs.SegList.{Item, behind, callbacks, front, is_empty, markers, take_answer}
use Rattle.rcu_barrier.specs.Tending.{after_tend}
use Rattle.rcu_barrier.specs.declared.lists.Visit.{Visit as Visited}
use Rattle.rcu_barrier.specs.declared.lists.Visit.TheVariants.{Marked, Empty, Already}
use Rattle.rcu_core.specs.History.{History, report_at}
use Rattle.rcu_core.specs.Situation.{Situation, situation}
use Rattle.rcu_state.specs.GpState.{which}
use Rattle.rcu_state.specs.Periods.{number_in, tag_in, wants_begin}
use Rattle.rcu_core.specs.declared.event.Event.{Event}
use Rattle.rcu_core.specs.declared.event.Event.TheVariants.{Enter, Exit, Note, Quiesce, Deliver}
use Rattle.rcu_core.specs.declared.event.Event.TheVariants.{Online, Offline, Begin, End, Turn}
use Rattle.rcu_core.specs.declared.event.Event.TheVariants.{Awaits, Take, StartPoll, Poll, Queue}
use Rattle.rcu_core.specs.declared.event.Event.TheVariants.{Tend, Run, BarBegin, Visit, BarTest}
use Rattle.rcu_core.specs.declared.event.Event.TheVariants.{Renumber, Idle, Wake, Scan}
use Rattle.rcu_core.specs.declared.reply.Reply.{Reply}
use Rattle.rcu_core.specs.declared.reply.Reply.TheVariants as reply

-- the number of processors, the last number, and the limit of queued callbacks
pub record Size : Type 0 where
  pub cpus : ℕ
  pub last : Number
  pub most : ℕ

-- how many of the processors pass a test
abbrev pub how_many : Size → (ℕ → Bool) → ℕ
how_many s test = count_by test (range_with_len 0 s.cpus)

-- the number is the last one
abbrev pub is_last_in : Size → Situation → Bool
is_last_in s v = same_number (number_in v.periods) s.last

-- the processor's list once it is tended
abbrev pub tended_list : Situation → ℕ → List (Item ℕ)
tended_list v cpu = after_tend (v.calls.list cpu) (number_in v.periods)

-- the number of markers and unvisited processors that the running barrier waits for
abbrev pub waits_for : Size → Situation → ℕ
waits_for s v =
    sum_by (λ cpu. markers (v.calls.list cpu)) (range_with_len 0 s.cpus) + how_many s v.calls.owed

-- causes that several events test: the processor does not exist, it is offline, it is idle, it is
-- not idle, a section of it is open
abbrev pub no_cpu : Size → ℕ → Bool × Fault
no_cpu s cpu = (nat_le s.cpus cpu, fault.BadCpu)

abbrev pub is_offline : Situation → ℕ → Bool × Fault
is_offline v cpu = (not (v.cpus.online cpu), fault.Offline)

abbrev pub is_asleep : Situation → ℕ → Bool × Fault
is_asleep v cpu = (v.cpus.idle cpu, fault.CpuIdle)

abbrev pub is_awake : Situation → ℕ → Bool × Fault
is_awake v cpu = (not (v.cpus.idle cpu), fault.NotIdle)

abbrev pub is_inside : Situation → ℕ → Bool × Fault
is_inside v cpu = (nat_lt 0 (v.cpus.depth cpu), fault.InSection)

-- the tests of an event, in order: each a cause and its fault
abbrev pub causes : Size → Situation → Event → List (Bool × Fault)
causes s v (Enter cpu) =
    no_cpu s cpu ∷ is_offline v cpu ∷ is_asleep v cpu
    ∷ (v.cpus.depth cpu == deepest, fault.NestFull) ∷ []
causes s v (Exit cpu) = no_cpu s cpu ∷ (v.cpus.depth cpu == 0, fault.NotOpen) ∷ []
causes s v (Note cpu) = no_cpu s cpu ∷ is_offline v cpu ∷ []
causes s v (Quiesce cpu) = no_cpu s cpu ∷ is_offline v cpu ∷ is_asleep v cpu ∷ is_inside v cpu ∷ []
causes s v (Deliver place) = (is_none (report_at place v.cpus.made), fault.NoReport) ∷ []
causes s v (Online cpu) = no_cpu s cpu ∷ (v.cpus.online cpu, fault.AlreadyOnline) ∷ []
causes s v (Offline cpu) =
    no_cpu s cpu ∷ (cpu == 0, fault.BootStays) ∷ is_offline v cpu ∷ is_inside v cpu ∷ []
causes s v Begin = (v.periods.running, fault.Running) ∷ (is_last_in s v, fault.Exhausted) ∷ []
causes s v End =
    (not v.periods.running, fault.Idle) ∷ (nat_lt 0 (how_many s v.cpus.awaits), fault.Waiting) ∷ []
causes s v Turn = (wants_begin v.periods && is_last_in s v, fault.Exhausted) ∷ []
causes s v Awaits = []
causes s v Take = []
causes s v StartPoll = []
causes s v (Poll number epoch) = []
causes s v (Queue cpu value) =
    no_cpu s cpu ∷ is_offline v cpu ∷ (v.calls.queued == s.most, fault.CallbacksFull) ∷ []
causes s v (Tend cpu) = no_cpu s cpu ∷ []
causes s v (Run cpu most) = no_cpu s cpu ∷ []
causes s v BarBegin = (v.calls.barrier, fault.BarrierBusy) ∷ []
causes s v (Visit cpu) = no_cpu s cpu ∷ (not v.calls.barrier, fault.NoBarrier) ∷ []
causes s v BarTest = (not v.calls.barrier, fault.NoBarrier) ∷ []
causes s v Renumber =
    (v.periods.running, fault.Running) ∷ (not (is_last s.last && is_last_in s v), fault.NotLast)
    ∷ (v.periods.epoch == last_epoch, fault.Exhausted) ∷ []
causes s v (Idle cpu) = no_cpu s cpu ∷ is_offline v cpu ∷ is_asleep v cpu ∷ is_inside v cpu ∷ []
causes s v (Wake cpu) = no_cpu s cpu ∷ is_offline v cpu ∷ is_awake v cpu ∷ []
causes s v (Scan cpu) = no_cpu s cpu ∷ is_offline v cpu ∷ is_awake v cpu ∷ []

-- the fault of an event
abbrev pub fault_in : Size → Situation → Event → Option Fault
fault_in s v e = first_fault (causes s v e)

-- the answer to a delivered report: it is stale if no grace period runs or its tag is not that of
-- now, a repeat if its processor is not awaited, the last if only that one is awaited, and taken
-- otherwise
abbrev pub answer_to_report : Size → Situation → Option Report → Answer
answer_to_report s v None = Stale
answer_to_report s v (Some report) =
    if not (v.periods.running && same_tag report.tag (tag_in v.periods)) then Stale
    else (if not (v.cpus.awaits report.cpu) then Repeat
    else (if how_many s v.cpus.awaits == 1 then Last else Taken))

-- the report of a processor that noted the tag of now
abbrev pub own_report : Situation → ℕ → Report
own_report v cpu = record { cpu = cpu; tag = tag_in v.periods }

-- a grace period begins
abbrev pub begin_reply : Size → Situation → Reply
begin_reply s v = reply.Begun (number_at v.periods.ends true) (how_many s v.cpus.online)

-- it ends
abbrev pub end_reply : Situation → Reply
end_reply v = reply.Ended (number_at (v.periods.ends + 1) false)

-- a turn: a running grace period ends if no processor is awaited; if none runs, one begins if a
-- later number is needed
abbrev pub turn_reply : Size → Situation → Reply
turn_reply s v =
    if v.periods.running
    then (if how_many s v.cpus.awaits == 0
    then end_reply v
    else reply.Waiting (how_many s v.cpus.awaits))
    else (if wants_begin v.periods then begin_reply s v else reply.Nothing)

-- a visit: if the processor is owed one and its list is not empty, a marker goes behind its list
abbrev pub visit_in : Situation → ℕ → Visited
visit_in v cpu =
    if not (v.calls.owed cpu)
    then Already
    else (if is_empty (v.calls.list cpu) then Empty else Marked)

-- a test of the barrier: it is done if it waits for nothing
abbrev pub barrier_test_reply : Size → Situation → Reply
barrier_test_reply s v =
    if waits_for s v == 0 then reply.BarDone else reply.BarWaits (waits_for s v)

-- the reply to an event of which no cause holds
abbrev pub accepted_reply : Size → Situation → Event → Reply
accepted_reply s v (Enter cpu) = reply.Depth (v.cpus.depth cpu + 1)
accepted_reply s v (Exit cpu) = reply.Depth (v.cpus.depth cpu - 1)
accepted_reply s v (Note cpu) = reply.Noted (number_in v.periods) (v.cpus.awaits cpu)
accepted_reply s v (Quiesce cpu) =
    reply.Made (length v.cpus.made + 1) (record { cpu = cpu; tag = v.cpus.noted cpu })
accepted_reply s v (Deliver place) =
    reply.Answer (answer_to_report s v (report_at place v.cpus.made))
accepted_reply s v (Online cpu) = reply.Online
accepted_reply s v (Offline cpu) = reply.Moved (length (callbacks (v.calls.list cpu)))
accepted_reply s v Begin = begin_reply s v
accepted_reply s v End = end_reply v
accepted_reply s v Turn = turn_reply s v
accepted_reply s v Awaits = reply.Awaits (which s.cpus v.cpus.awaits)
accepted_reply s v Take = reply.Cookie (cookie_at (tag_in v.periods))
accepted_reply s v StartPoll = reply.Cookie (cookie_at (tag_in v.periods))
accepted_reply s v (Poll number epoch) =
    reply.Polled (is_done_at s.last (record { epoch = epoch; number = number }) (tag_in v.periods))
accepted_reply s v (Queue cpu value) = reply.Queued (v.calls.queued + 1)
accepted_reply s v (Tend cpu) =
    let xs = tended_list v cpu in
    reply.Tended (length (callbacks (front xs))) (length (callbacks (behind xs)))
accepted_reply s v (Run cpu most) =
    reply.Ran (map (λ call. call.value) (take_answer (v.calls.list cpu) most))
accepted_reply s v BarBegin = reply.BarBegun
accepted_reply s v (Visit cpu) = reply.Visited (visit_in v cpu)
accepted_reply s v BarTest = barrier_test_reply s v
accepted_reply s v Renumber = reply.Renumbered (v.periods.epoch + 1)
accepted_reply s v (Idle cpu) = reply.Idle
accepted_reply s v (Wake cpu) = reply.Awake
accepted_reply s v (Scan cpu) = reply.Answer (answer_to_report s v (Some (own_report v cpu)))

-- the first fault whose cause holds, and else this reply
abbrev pub or_fault : Option Fault → Reply → Reply
or_fault None r = r
or_fault (Some f) r = reply.Fault f

-- the reply to an event, if memory is never refused
abbrev pub answer : Size → Situation → Event → Reply
answer s v e = or_fault (fault_in s v e) (accepted_reply s v e)

-- the event stores something: a report, a callback, a marker, or a list that is not empty
abbrev pub stores : Size → Situation → Event → Bool
stores s v (Quiesce cpu) = true
stores s v Awaits = nat_lt 0 (how_many s v.cpus.awaits)
stores s v (Offline cpu) = not (is_empty (v.calls.list cpu))
stores s v (Queue cpu value) = true
stores s v (Run cpu most) = nat_lt 0 (length (take_answer (v.calls.list cpu) most))
stores s v (Visit cpu) = v.calls.owed cpu && not (is_empty (v.calls.list cpu))
stores s v _ = false

-- the reply is the answer; or memory is refused, if the event stores something and no other fault
-- holds
abbrev pub IsLegalReply : Size → Situation → Event → Reply → Type 0
IsLegalReply s v e r =
    (r ≡ answer s v e)
    ⊎ ((stores s v e ≡ true) × (fault_in s v e ≡ None) × (r ≡ reply.Fault fault.NoMemory))

-- a turn as the event that it was: a begin, an end, or neither
abbrev pub turn_as : Reply → Event
turn_as (reply.Begun number cpus) = Begin
turn_as (reply.Ended number) = End
turn_as _ = Turn

-- an event as the history records it
abbrev pub history_event : Event → Reply → Event
history_event Turn r = turn_as r
history_event e r = e

-- the history after an event and its reply: a refused event is not in it, nor is a test that found
-- the barrier waiting
abbrev pub with_event : History → Event → Reply → History
with_event h e (reply.Fault f) = h
with_event h e (reply.BarWaits left) = h
with_event h e r = history_event e r ∷ h

-- each event of the history was accepted
abbrev pub AreAccepted : Size → History → Type 0
AreAccepted s [] = Unit {0}
AreAccepted s (e ∷ h) = (fault_in s (situation h) e ≡ None) × AreAccepted s h
