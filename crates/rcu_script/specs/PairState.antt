-- Two replicas of one grace-period engine: the events of their lines, and the replicas after them.
use Rattle.std.specs.Prelude.{ℕ, ◌==◌, Bool, not, nat_lt, if◌then◌else◌, List, Option, Some, None}
use Rattle.std.specs.List.{list_all, list_any}
use Rattle.rcu_seq.specs.Seq.{number_of}
use Rattle.rcu_seq.specs.declared.fault.Fault.{Fault}
use Rattle.rcu_seq.specs.declared.fault.Fault.TheVariants.{BadCpu}
use Rattle.rcu_node.specs.CpuSet.{listed, size_of}
use Rattle.rcu_report.specs.Replica.{Replicated, Call, answer_of, at_first, cpus_of, after_call}
use Rattle.rcu_report.specs.Replica.{refusal}
use Rattle.rcu_report.specs.Replica as call
use Rattle.rcu_core.specs.Replies.{Size}
use Rattle.rcu_script.specs.declared.pair.event.Side.{Side}
use Rattle.rcu_script.specs.declared.pair.event.Side.TheVariants.{A, B}
use Rattle.rcu_script.specs.declared.pair.event.PairEvent.{PairEvent}
use Rattle.rcu_script.specs.declared.pair.event.PairEvent.TheVariants.{Begin, Report, Depart, End}
use Rattle.rcu_script.specs.declared.pair.event.PairEvent.TheVariants.{Awaits, Merge}
use Rattle.rcu_script.specs.declared.pair.event.PairReply.{PairReply}
use Rattle.rcu_script.specs.declared.pair.event.PairReply.TheVariants as reply

-- two replicas
pub record Pair : Type 0 where
  pub a : Replicated
  pub b : Replicated

-- two fresh replicas of a size
abbrev pub pair_at : Size → Pair
pair_at size = record { a = at_first size.cpus size.last; b = at_first size.cpus size.last }

-- the replica of a side
abbrev pub own : Side → Pair → Replicated
own A p = p.a
own B p = p.b

-- the other replica
abbrev pub other : Side → Pair → Replicated
other A p = p.b
other B p = p.a

-- the pair, once the replica of a side is this one
abbrev pub with_own : Side → Pair → Replicated → Pair
with_own A p r = record p { a = r }
with_own B p r = record p { b = r }

-- the set of the listed processors, in any order and with any repetitions
abbrev pub set_of : ℕ → List ℕ → List Bool
set_of n cpus = listed n (λ cpu. list_any (λ c. c == cpu) cpus)

-- why a begin of the listed processors is refused, if it is: one of them does not exist, or else as
-- for the replica's begin
abbrev pub pair_begin_refusal : Replicated → List ℕ → Option Fault
pair_begin_refusal mine cpus =
    if not (list_all (λ c. nat_lt c (cpus_of mine)) cpus) then Some BadCpu
    else refusal mine (call.Begin (set_of (cpus_of mine) cpus))

-- why an event is refused, if it is
abbrev pub event_refusal : Replicated → Replicated → PairEvent → Option Fault
event_refusal mine its (Begin cpus) = pair_begin_refusal mine cpus
event_refusal mine its (Report cpu tag) = refusal mine (call.Report cpu tag)
event_refusal mine its (Depart cpu) = refusal mine (call.Depart cpu)
event_refusal mine its End = refusal mine call.End
event_refusal mine its Awaits = None
event_refusal mine its Merge = refusal mine (call.Merge its)

-- the replica after an accepted event, as after its call; listing changes nothing
abbrev pub after_event : Replicated → Replicated → PairEvent → Replicated
after_event mine its (Begin cpus) = after_call mine (call.Begin (set_of (cpus_of mine) cpus))
after_event mine its (Report cpu tag) = after_call mine (call.Report cpu tag)
after_event mine its (Depart cpu) = after_call mine (call.Depart cpu)
after_event mine its End = after_call mine call.End
after_event mine its Awaits = mine
after_event mine its Merge = after_call mine (call.Merge its)

-- the reply to an accepted event, by the replica after it
abbrev pub event_reply : Replicated → Replicated → PairEvent → PairReply
event_reply mine its (Begin cpus) =
    let left = after_event mine its (Begin cpus) in
    reply.Begun (number_of left.periods) (size_of left.awaited)
event_reply mine its (Report cpu tag) = reply.Answer (answer_of mine cpu tag)
event_reply mine its (Depart cpu) = reply.Departed
event_reply mine its End = reply.Ended (number_of (after_event mine its End).periods)
event_reply mine its Awaits = reply.Awaits
event_reply mine its Merge = reply.Merged (size_of (after_event mine its Merge).awaited)
