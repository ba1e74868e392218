-- Processors that come and go: the awaited set after each call, and why a call is refused.
use Rattle.std.specs.Prelude.{ℕ, ◌≡◌, ◌==◌, Bool, true, false, not, nat_lt, List, [], ◌∷◌, length}
use Rattle.std.specs.Prelude.{slice_set, replicate}
use Rattle.std.specs.Prelude.{Option}
use Rattle.rcu_seq.specs.Fault.{first_fault}
use Rattle.rcu_seq.specs.Tags.{first_tag}
use Rattle.rcu_seq.specs.declared.tag.Tag.{Tag}
use Rattle.rcu_seq.specs.declared.fault.Fault.{Fault}
use Rattle.rcu_seq.specs.declared.fault.Fault.TheVariants.{BadCpu, Offline, AlreadyOnline}
use Rattle.rcu_seq.specs.declared.fault.Fault.TheVariants.{BootStays}
use Rattle.rcu_node.specs.CpuSet.{is_in}
use Rattle.rcu_node.specs.Merging.{Standing, standing}
use Rattle.rcu_node.specs.Reports.{awaited_after_report}

-- the latest grace period's tag, the processors that it awaited at its start, those that it awaits
-- now, and those that are online
pub record Processors : Type 0 where
  pub tag : Tag
  pub start_set : List Bool
  pub awaited : List Bool
  pub online : List Bool

-- a call: a processor arrives or departs, a grace period of a tag begins, a processor reports the
-- tag that it noted
pub data Call : Type 0 where
  Arrive : ℕ → Call
  Depart : ℕ → Call
  Begin : Tag → Call
  Report : ℕ → Tag → Call

-- before any call processor 0 is online, and no processor is awaited
abbrev pub at_first : ℕ → Processors
at_first cpus = record {
  tag = first_tag;
  start_set = replicate cpus false;
  awaited = replicate cpus false;
  online = slice_set (replicate cpus false) 0 true;
}

-- the number of processors
abbrev pub cpus_of : Processors → ℕ
cpus_of p = length p.awaited

-- the latest grace period
abbrev pub standing_of : Processors → Standing
standing_of p = standing p.tag p.start_set p.awaited

-- the tests of a call, in order: each a cause and its fault
abbrev pub causes : Processors → Call → List (Bool × Fault)
causes p (Arrive cpu) =
    (not (nat_lt cpu (cpus_of p)), BadCpu) ∷ (is_in p.online cpu, AlreadyOnline) ∷ []
causes p (Depart cpu) =
    (not (nat_lt cpu (cpus_of p)), BadCpu) ∷ (cpu == 0, BootStays) ∷
    (not (is_in p.online cpu), Offline) ∷ []
causes p (Begin tag) = []
causes p (Report cpu noted) = []

-- why a call is refused, if it is: the fault of the first cause that holds
abbrev pub refusal : Processors → Call → Option Fault
refusal p call = first_fault (causes p call)

-- the processors after an accepted call: an arrival is online, a departed processor is neither
-- online nor awaited, a beginning grace period awaits the online processors, and a report clears
-- its processor as reports do
abbrev pub after_call : Processors → Call → Processors
after_call p (Arrive cpu) = record p { online = slice_set p.online cpu true }
after_call p (Depart cpu) =
    record p { online = slice_set p.online cpu false; awaited = slice_set p.awaited cpu false }
after_call p (Begin tag) = record p { tag = tag; start_set = p.online; awaited = p.online }
after_call p (Report cpu noted) =
    record p { awaited = awaited_after_report p.tag p.awaited cpu noted }

-- the invariant: there is a flag for each processor, processor 0 is online, and only online
-- processors of the start set are awaited
pub record IsSound (p : Processors) : Type 0 where
  pub started : length p.start_set ≡ cpus_of p
  pub sized : length p.online ≡ cpus_of p
  pub boot : is_in p.online 0 ≡ true
  pub within : (cpu : ℕ) → is_in p.awaited cpu ≡ true → is_in p.start_set cpu ≡ true
  pub present : (cpu : ℕ) → is_in p.awaited cpu ≡ true → is_in p.online cpu ≡ true
