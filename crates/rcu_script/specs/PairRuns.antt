-- The answer of a run of a pair, its end, and the tests of its opening.
use Rattle.std.specs.Prelude.{ℕ, not, Option, Some, None, Result, if◌then◌else◌}
use Rattle.rcu_seq.specs.Numbers.{Number, is_last}
use Rattle.rcu_seq.specs.declared.fault.Fault.{Fault}
use Rattle.rcu_seq.specs.declared.fault.Fault.TheVariants.{BadFanout, BadLast}
use Rattle.rcu_geometry.specs.Geometry.{refusal, shape}
use Rattle.rcu_script.specs.Opening.{is_offered, size_of_setup}
use Rattle.rcu_script.specs.PairTexts.{IsPairText}
use Rattle.rcu_text.specs.Runs.{Ends}
use Rattle.rcu_script.specs.RunEnds.{RunsFromOpening}
use Rattle.rcu_script.specs.declared.runs.Setup.{Setup}
use Rattle.rcu_script.specs.declared.runs.RunFault.{RunFault}

-- the first fault of two trees, by that of each: the fanouts of both are tested before the number
-- of processors
abbrev pub first_of_both : Option Fault → Option Fault → Option Fault
first_of_both None second = second
first_of_both first None = first
first_of_both (Some BadFanout) second = Some BadFanout
first_of_both first second = second

-- the first fault of two trees of these fanouts
abbrev pub shapes_fault : ℕ → ℕ → ℕ → ℕ → ℕ → Option Fault
shapes_fault leaf inner leaf2 inner2 cpus =
    first_of_both (refusal (shape leaf inner cpus)) (refusal (shape leaf2 inner2 cpus))

-- the first fault, or else that of an illegal last number
abbrev pub or_last_fault : Option Fault → Number → Option Fault
or_last_fault (Some fault) last = Some fault
or_last_fault None last = if not (is_last last) then Some BadLast else None

-- the first fault of a pair over the trees of these fanouts
abbrev pub trees_fault : ℕ → ℕ → ℕ → ℕ → ℕ → Number → Option Fault
trees_fault leaf inner leaf2 inner2 cpus last =
    or_last_fault (shapes_fault leaf inner leaf2 inner2 cpus) last

-- the first fault of a setup whose first pair of fanouts is offered and is this one
abbrev pub fault_beside : ℕ → ℕ → Setup → Option Fault
fault_beside leaf inner setup = if not (is_offered setup.leaf2 setup.inner2) then Some BadFanout
    else trees_fault leaf inner setup.leaf2 setup.inner2 setup.cpus setup.last

-- the first fault of a setup
abbrev pub pair_fault : Setup → Option Fault
pair_fault setup = if not (is_offered setup.leaf setup.inner) then Some BadFanout
    else fault_beside setup.leaf setup.inner setup

-- how a run of a setup ends: the written text is the one right text
abbrev pub RunsPair : Result (Unit {0}) RunFault → Setup → Ends → Ends → Type 0
RunsPair result setup old new =
    RunsFromOpening result (pair_fault setup) (IsPairText (size_of_setup setup)) old new
