-- The state of the engine, and how it represents a history.
use Rattle.std.specs.Prelude.{ℕ, ◌<◌, ◌≡◌, Bool, false, List, [], ◌∷◌, ◌++◌, length, slice_index_or}
use Rattle.std.specs.Prelude.{slice_set, All, Option, Some, None, Result, Ok, Err}
use Rattle.rcu_seq.specs.Fault.{first_fault}
use Rattle.rcu_seq.specs.Seq.{tag_of}
use Rattle.rcu_seq.specs.declared.fault.Fault.{Fault}
use Rattle.rcu_node.specs.CpuSet.{is_in}
use Rattle.rcu_report.specs.declared.batch.Report.{Report}
use Rattle.rcu_hotplug.specs.Hotplug.{Processors, Arrive as Arrives, Depart as Departs, cpus_of}
use Rattle.rcu_cpu.specs.CpuData as cpu_data
use Rattle.rcu_cpu.specs.CpuData.{Call, Processor, report_of}
use Rattle.rcu_barrier.specs.Lists as lists
use Rattle.rcu_barrier.specs.Lists.{AllLists, list_of, owes_visit}
use Rattle.rcu_state.specs.GpState as grace
use Rattle.rcu_state.specs.GpState.{Grace, periods_of}
use Rattle.rcu_core.specs.History.{History, report_at}
use Rattle.rcu_core.specs.Replies.{Size, AreAccepted, IsLegalReply, no_cpu, with_event}
use Rattle.rcu_core.specs.Situation.{Situation, CpuSituation, CallbackSituation}
use Rattle.rcu_state.specs.Periods.{PeriodSituation}
use Rattle.rcu_core.specs.Situation.{periods_in, cpus_in, calls_in, situation}
use Rattle.rcu_core.specs.declared.event.Event.{Event}
use Rattle.rcu_core.specs.declared.event.Event.TheVariants.{Enter, Exit, Note, Quiesce, Deliver}
use Rattle.rcu_core.specs.declared.event.Event.TheVariants.{Online, Offline, Begin, End, Turn}
use Rattle.rcu_core.specs.declared.event.Event.TheVariants.{Awaits, Take, StartPoll, Poll, Queue}
use Rattle.rcu_core.specs.declared.event.Event.TheVariants.{Tend, Run, BarBegin, Visit, BarTest}
use Rattle.rcu_core.specs.declared.event.Event.TheVariants.{Renumber, Idle, Wake, Scan}
use Rattle.rcu_core.specs.declared.reply.Reply.{Reply}
use Rattle.rcu_core.specs.declared.reply.Reply.TheVariants as reply

-- the state of the grace periods and the callbacks, each processor at its index, and all reports,
-- the first one first
pub record State (X : Type 0) : Type 0 where
  pub grace : Grace X
  pub cpus : List Processor
  pub made : List Report

-- the number of processors, the last number, and the limit of queued callbacks
abbrev pub size_at : {X : Type 0} → State X → Size
size_at v = record {
  cpus = cpus_of v.grace.processors;
  last = v.grace.seq.last;
  most = v.grace.lists.most;
}

-- why a processor is not found: no processor has this number
abbrev pub cpu_refusal : {X : Type 0} → State X → ℕ → Option Fault
cpu_refusal v cpu = first_fault (no_cpu (size_at v) cpu ∷ [])

-- the processor at an index
abbrev pub processor : List Processor → ℕ → Processor
processor cpus cpu = slice_index_or cpus cpu (cpu_data.at_first cpu false)

-- the three parts of a state's situation
abbrev pub cpus_said : State ℕ → CpuSituation
cpus_said v = record {
  online = is_in v.grace.processors.online;
  idle = λ cpu. (processor v.cpus cpu).idle;
  awaits = is_in v.grace.processors.awaited;
  depth = λ cpu. (processor v.cpus cpu).depth;
  noted = λ cpu. (processor v.cpus cpu).noted;
  made = v.made;
}

abbrev pub calls_said : AllLists ℕ → CallbackSituation
calls_said all = record {
  queued = all.queued;
  list = list_of all;
  barrier = all.running;
  owed = owes_visit all;
}

-- the situation of a state
abbrev pub says : State ℕ → Situation
says v = record {
  periods = periods_of v.grace;
  cpus = cpus_said v;
  calls = calls_said v.grace.lists;
}

-- the invariant: there are as many processors as flags, each at its index, and online if the online
-- set has it; each has a list, and a flag for the barrier's visit; and each report is of a
-- processor
pub record IsSound {X : Type 0} (v : State X) : Type 0 where
  pub flags : length v.grace.processors.online ≡ cpus_of v.grace.processors
  pub sized : length v.cpus ≡ cpus_of v.grace.processors
  pub placed : (cpu : ℕ) → (processor v.cpus cpu).cpu ≡ cpu
  pub present : (cpu : ℕ) → (processor v.cpus cpu).online ≡ is_in v.grace.processors.online cpu
  pub listed : lists.cpus_of v.grace.lists ≡ cpus_of v.grace.processors
  pub visits : length v.grace.lists.visited ≡ cpus_of v.grace.processors
  pub made : All (λ report. report.cpu < cpus_of v.grace.processors) v.made

-- the processors after a call of one of them
abbrev pub with_cpu : List Processor → ℕ → Call → List Processor
with_cpu cpus cpu call = slice_set cpus cpu (cpu_data.after_call (processor cpus cpu) call)

-- the awaited processors after a report is delivered
abbrev pub awaited_by : Grace ℕ → Option Report → List Bool
awaited_by g None = g.processors.awaited
awaited_by g (Some report) = grace.awaited_after g report

-- the state after an accepted event
abbrev pub after_event : State ℕ → Event → State ℕ
after_event v (Enter cpu) = record v { cpus = with_cpu v.cpus cpu cpu_data.Enter }
after_event v (Exit cpu) = record v { cpus = with_cpu v.cpus cpu cpu_data.Exit }
after_event v (Note cpu) = record v {
  cpus = with_cpu v.cpus cpu (cpu_data.Note (tag_of v.grace.seq));
}
after_event v (Quiesce cpu) = record v { made = v.made ++ report_of (processor v.cpus cpu) ∷ [] }
after_event v (Deliver place) =
    record v { grace = grace.with_awaited v.grace (awaited_by v.grace (report_at place v.made)) }
after_event v (Online cpu) = record v {
  grace = grace.with_call v.grace (Arrives cpu);
  cpus = with_cpu v.cpus cpu (cpu_data.Arrive (tag_of v.grace.seq));
}
after_event v (Offline cpu) = record v {
  grace = grace.with_call (grace.after_migrate v.grace cpu) (Departs cpu);
  cpus = with_cpu v.cpus cpu cpu_data.Depart;
}
after_event v Begin = record v { grace = grace.after_begin v.grace }
after_event v End = record v { grace = grace.after_end v.grace }
after_event v Turn = record v { grace = grace.after_turn v.grace }
after_event v Awaits = v
after_event v Take = v
after_event v StartPoll = record v { grace = grace.after_start_poll v.grace }
after_event v (Poll number epoch) = v
after_event v (Queue cpu value) = record v { grace = grace.after_queue v.grace cpu value }
after_event v (Tend cpu) = record v { grace = grace.after_tend v.grace cpu }
after_event v (Run cpu most) = record v { grace = grace.after_run v.grace cpu most }
after_event v BarBegin = record v { grace = grace.after_barrier_begin v.grace }
after_event v (Visit cpu) = record v { grace = grace.after_visit v.grace cpu }
after_event v BarTest = record v { grace = grace.after_barrier_test v.grace }
after_event v Renumber = record v { grace = grace.after_renumber v.grace }
after_event v (Idle cpu) = record v { cpus = with_cpu v.cpus cpu cpu_data.Idle }
after_event v (Wake cpu) = record v { cpus = with_cpu v.cpus cpu cpu_data.Wake }
after_event v (Scan cpu) = record v { grace = grace.after_report_now v.grace cpu }

-- the state after an event and its reply: a refused event changes nothing
abbrev pub after_reply : State ℕ → Event → Reply → State ℕ
after_reply v e (reply.Fault f) = v
after_reply v e _ = after_event v e

-- a step on states: the reply is legal, and the state is that after the event and the reply
pub record StepsLegally (v : State ℕ) (e : Event) (r : Reply) (w : State ℕ) : Type 0 where
  pub legal : IsLegalReply (size_at v) (says v) e r
  pub left : w ≡ after_reply v e r

-- a call takes an event: its reply, or the fault of its refusal, is a legal reply, and the state is
-- that after the event and the reply
abbrev pub Takes : State ℕ → Event → Result Reply Fault → State ℕ → Type 0
Takes v e (Ok r) w = StepsLegally v e r w
Takes v e (Err fault) w = StepsLegally v e (reply.Fault fault) w

-- the counter and the needed number are as in a situation
pub record RepresentsPeriods (p u : PeriodSituation) : Type 0 where
  pub epoch : p.epoch ≡ u.epoch
  pub ends : p.ends ≡ u.ends
  pub running : p.running ≡ u.running
  pub needed : p.needed ≡ u.needed

-- one processor, as in a situation
abbrev pub processor_in : CpuSituation → ℕ → Processor
processor_in u cpu = record {
  cpu = cpu;
  online = u.online cpu;
  idle = u.idle cpu;
  depth = u.depth cpu;
  noted = u.noted cpu;
}

-- the processors and the reports are as in a situation
pub record RepresentsCpus (processors : Processors) (cpus : List Processor) (reports : List Report)
    (u : CpuSituation) : Type 0 where
  pub online : (cpu : ℕ) → is_in processors.online cpu ≡ u.online cpu
  pub awaits : (cpu : ℕ) → is_in processors.awaited cpu ≡ u.awaits cpu
  pub each : (cpu : ℕ) → processor cpus cpu ≡ processor_in u cpu
  pub made : reports ≡ u.made

-- the lists and the barrier are as in a situation
pub record RepresentsCalls (all : AllLists ℕ) (u : CallbackSituation) : Type 0 where
  pub queued : all.queued ≡ u.queued
  pub list : (cpu : ℕ) → list_of all cpu ≡ u.list cpu
  pub barrier : all.running ≡ u.barrier
  pub owed : (cpu : ℕ) → owes_visit all cpu ≡ u.owed cpu

-- the engine is in the situation of a history
pub record Represents (v : State ℕ) (h : History) : Type 0 where
  pub accepted : AreAccepted (size_at v) h
  pub periods : RepresentsPeriods (periods_of v.grace) (periods_in h)
  pub cpus : RepresentsCpus v.grace.processors v.cpus v.made (cpus_in h)
  pub calls : RepresentsCalls v.grace.lists (calls_in h)

-- a step after a history: the reply is legal, and the engine is then in the situation of the
-- history, with the event if it was accepted, at the same size
pub record Follows (v : State ℕ) (h : History) (e : Event) (r : Reply) (w : State ℕ) : Type 0 where
  pub legal : IsLegalReply (size_at v) (situation h) e r
  pub has : Represents w (with_event h e r)
  pub size : size_at w ≡ size_at v
