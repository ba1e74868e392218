-- One processor: its calls, why each is refused, and the state after it.
use Rattle.std.specs.Prelude.{ℕ, ◌+◌, ◌-◌, ◌≡◌, ◌==◌, Bool, true, false, not, nat_lt, List, [], ◌∷◌}
use Rattle.std.specs.Prelude.{Option, None}
use Rattle.rcu_seq.specs.Fault.{first_fault}
use Rattle.rcu_seq.specs.Tags.{first_tag}
use Rattle.rcu_seq.specs.declared.fault.Fault.{Fault}
use Rattle.rcu_seq.specs.declared.fault.Fault.TheVariants.{AlreadyOnline, CpuIdle, InSection}
use Rattle.rcu_seq.specs.declared.fault.Fault.TheVariants.{NestFull}
use Rattle.rcu_seq.specs.declared.fault.Fault.TheVariants.{NotIdle, NotOpen, Offline}
use Rattle.rcu_seq.specs.declared.tag.Tag.{Tag}
use Rattle.rcu_report.specs.declared.batch.Report.{Report}

-- a processor: its number, whether it is online, whether it is idle, the depth of its read
-- sections, and the tag that it noted
pub record Processor : Type 0 where
  pub cpu : ℕ
  pub online : Bool
  pub idle : Bool
  pub depth : ℕ
  pub noted : Tag

-- the greatest depth of read sections
abbrev pub deepest : ℕ
deepest = 65535

-- a new processor: it is awake, no section is open, and number 0 of epoch 0 is noted
abbrev pub at_first : ℕ → Bool → Processor
at_first cpu online = record {
  cpu = cpu;
  online = online;
  idle = false;
  depth = 0;
  noted = first_tag;
}

-- the report of its quiescent state: its number, and the tag that it noted
abbrev pub report_of : Processor → Report
report_of p = record { cpu = p.cpu; tag = p.noted }

-- a call; a note and an arrival take the tag of now as an argument
pub data Call : Type 0 where
  Enter : Call
  Exit : Call
  Note : Tag → Call
  Quiesce : Call
  Arrive : Tag → Call
  Depart : Call
  Idle : Call
  Wake : Call

-- causes of refusals: the processor is offline, it is idle, a section of it is open
abbrev pub offline_cause : Processor → Bool × Fault
offline_cause p = (not p.online, Offline)

abbrev pub idle_cause : Processor → Bool × Fault
idle_cause p = (p.idle, CpuIdle)

abbrev pub section_cause : Processor → Bool × Fault
section_cause p = (nat_lt 0 p.depth, InSection)

-- the tests of a call, in order: each a cause and its fault
abbrev pub causes : Processor → Call → List (Bool × Fault)
causes p Enter = offline_cause p ∷ idle_cause p ∷ (p.depth == deepest, NestFull) ∷ []
causes p Exit = (p.depth == 0, NotOpen) ∷ []
causes p (Note _) = offline_cause p ∷ []
causes p Quiesce = offline_cause p ∷ idle_cause p ∷ section_cause p ∷ []
causes p (Arrive _) = (p.online, AlreadyOnline) ∷ []
causes p Depart = offline_cause p ∷ section_cause p ∷ []
causes p Idle = offline_cause p ∷ idle_cause p ∷ section_cause p ∷ []
causes p Wake = offline_cause p ∷ (not p.idle, NotIdle) ∷ []

-- why a call is refused, if it is: the fault of the first cause that holds
abbrev pub refusal : Processor → Call → Option Fault
refusal p call = first_fault (causes p call)

-- the call is accepted: it is not refused
abbrev pub IsAccepted : Processor → Call → Type 0
IsAccepted p call = refusal p call ≡ None

-- the processor after an accepted call: a departure ends its idleness, and a processor arrives
-- awake
abbrev pub after_call : Processor → Call → Processor
after_call p Enter = record p { depth = p.depth + 1 }
after_call p Exit = record p { depth = p.depth - 1 }
after_call p (Note now) = record p { noted = now }
after_call p Quiesce = p
after_call p (Arrive now) = record p { online = true; idle = false; noted = now }
after_call p Depart = record p { online = false; idle = false }
after_call p Idle = record p { idle = true }
after_call p Wake = record p { idle = false }

-- a new processor of this number, online or not, after these calls, the newest first
abbrev pub after_calls : ℕ → Bool → List Call → Processor
after_calls cpu online [] = at_first cpu online
after_calls cpu online (call ∷ earlier) = after_call (after_calls cpu online earlier) call

-- each of the calls was accepted, after the earlier ones
abbrev pub AreAccepted : ℕ → Bool → List Call → Type 0
AreAccepted cpu online [] = Unit {0}
AreAccepted cpu online (call ∷ earlier) =
    IsAccepted (after_calls cpu online earlier) call × AreAccepted cpu online earlier
