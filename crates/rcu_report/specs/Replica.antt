-- Replicas of one grace-period engine, which stay in the first epoch: the state after each call,
-- and why a call is refused.
use Rattle.std.specs.Prelude.{ℕ, ◌≡◌, ◌+◌, ◌-◌, ◌==◌, Bool, true, false, not, nat_lt, if◌then◌else◌}
use Rattle.std.specs.Prelude.{List, [], ◌∷◌}
use Rattle.std.specs.Prelude.{length, slice_set, replicate, None, Option}
use Rattle.rcu_seq.specs.Fault.{first_fault}
use Rattle.rcu_seq.specs.Numbers.{Number, number_at}
use Rattle.rcu_seq.specs.Seq.{Periods, number_of}
use Rattle.rcu_seq.specs.Tags.{first_tag, of_first_epoch}
use Rattle.rcu_seq.specs.declared.fault.Fault.{Fault}
use Rattle.rcu_seq.specs.declared.fault.Fault.TheVariants.{BadCpu, Running, Idle, Waiting}
use Rattle.rcu_seq.specs.declared.fault.Fault.TheVariants.{Exhausted, BootStays}
use Rattle.rcu_seq.specs.declared.fault.Fault.TheVariants.{NotAlike}
use Rattle.rcu_node.specs.CpuSet.{intersection, is_in, size_of}
use Rattle.rcu_node.specs.Merging.{Standing, are_alike, standing}
use Rattle.rcu_node.specs.Reports.{report_answer, awaited_after_report}
use Rattle.rcu_node.specs.declared.awaited.Answer.{Answer}
use Rattle.rcu_node.specs.declared.awaited.Answer.TheVariants.{Stale}

-- a replica: its counter of grace periods, the latest one's number, the processors that it awaited
-- at its start, and those that it awaits now
pub record Replicated : Type 0 where
  pub periods : Periods
  pub tag : Number
  pub start_set : List Bool
  pub awaited : List Bool

-- a call: a grace period of a set begins, a processor reports a number or departs, the grace period
-- ends, another replica is merged
pub data Call : Type 0 where
  Begin : List Bool → Call
  Report : ℕ → Number → Call
  Depart : ℕ → Call
  End : Call
  Merge : Replicated → Call

-- before any call no grace period began, and no processor is awaited
abbrev pub at_first : ℕ → Number → Replicated
at_first cpus last = record {
  periods = record { epoch = 0; ends = 0; running = false; last = last };
  tag = 0;
  start_set = replicate cpus false;
  awaited = replicate cpus false;
}

-- the number of processors
abbrev pub cpus_of : Replicated → ℕ
cpus_of r = length r.awaited

-- the latest grace period of a replica
abbrev pub standing_of : Replicated → Standing
standing_of r = standing (of_first_epoch r.tag) r.start_set r.awaited

-- no grace period began: the tag is the first one, and its start set is empty
pub record IsUnused (s : Standing) : Type 0 where
  pub tag : s.tag ≡ first_tag
  pub empty : s.start_set ≡ replicate (length s.awaited) false

-- the number of the latest grace period of a counter, 0 before any
abbrev pub latest_of : Periods → Number
latest_of p =
    if p.running then number_of p else (if p.ends == 0 then 0 else number_at (p.ends - 1) true)

-- the answer to a report: stale while no grace period runs, whatever its number, else the answer of
-- the awaited set
abbrev pub answer_of : Replicated → ℕ → Number → Answer
answer_of r cpu number =
    if r.periods.running then report_answer (of_first_epoch r.tag) r.awaited cpu
    (of_first_epoch number)
    else Stale

-- the call can be made: a set that begins is one of as many processors
abbrev pub CanBeMade : Replicated → Call → Type 0
CanBeMade r (Begin set) = length set ≡ cpus_of r
CanBeMade r _ = Unit {0}

-- the tests of a call, in order: each a cause and its fault
abbrev pub causes : Replicated → Call → List (Bool × Fault)
causes r (Begin set) =
    (r.periods.running, Running) ∷ (number_of r.periods == r.periods.last, Exhausted) ∷ []
causes r (Report cpu number) = (not (nat_lt cpu (cpus_of r)), BadCpu) ∷ []
causes r (Depart cpu) = (not (nat_lt cpu (cpus_of r)), BadCpu) ∷ (cpu == 0, BootStays) ∷ []
causes r End = (not r.periods.running, Idle) ∷ (not (size_of r.awaited == 0), Waiting) ∷ []
causes r (Merge other) = (not (are_alike (standing_of r) (standing_of other)), NotAlike) ∷ []

-- why a call is refused, if it is: the fault of the first cause that holds
abbrev pub refusal : Replicated → Call → Option Fault
refusal r call = first_fault (causes r call)

-- the replica after an accepted call: a beginning grace period awaits its set and has the new
-- number as its tag; while a grace period runs, a report clears its processor as reports do, and
-- changes nothing else; a departed processor is no longer awaited; an end is counted; a processor
-- that the other replica does not await is no longer awaited
abbrev pub after_call : Replicated → Call → Replicated
after_call r (Begin set) = record {
  periods = record r.periods { running = true };
  tag = number_at r.periods.ends true;
  start_set = set;
  awaited = set;
}
after_call r (Report cpu number) =
    if r.periods.running then
    record r {
      awaited = awaited_after_report (of_first_epoch r.tag) r.awaited cpu
          (of_first_epoch number);
    }
    else r
after_call r (Depart cpu) = record r { awaited = slice_set r.awaited cpu false }
after_call r End =
    record r { periods = record r.periods { ends = r.periods.ends + 1; running = false } }
after_call r (Merge other) = record r { awaited = intersection r.awaited other.awaited }

-- the invariant: there is a flag for each processor, only processors of the start set are awaited,
-- the tag is the latest grace period's number, and no processor is awaited before the first grace
-- period or while none runs
pub record IsSound (r : Replicated) : Type 0 where
  pub started : length r.start_set ≡ cpus_of r
  pub within : (cpu : ℕ) → is_in r.awaited cpu ≡ true → is_in r.start_set cpu ≡ true
  pub latest : r.tag ≡ latest_of r.periods
  pub fresh : r.tag ≡ 0 → r.start_set ≡ replicate (cpus_of r) false
  pub idle : r.periods.running ≡ false → (cpu : ℕ) → is_in r.awaited cpu ≡ false

-- if one replica may merge another, the other may merge it, as it was or as it became, and both
-- await the same processors then
pub record MergesBack (x y : Replicated) : Type 0 where
  pub both : refusal y (Merge x) ≡ None
  pub apart : (after_call x (Merge y)).awaited ≡ (after_call y (Merge x)).awaited
  pub still : refusal y (Merge (after_call x (Merge y))) ≡ None
  pub in_turn : (after_call x (Merge y)).awaited
      ≡ (after_call y (Merge (after_call x (Merge y)))).awaited
