-- How a run ends, from its opening on. A relation `IsText` gives the texts that answer lines.
use Rattle.std.specs.Prelude.{◌≡◌, ℕ, List, Option, None, Result, Ok, Err}
use Rattle.rcu_seq.specs.Memory.{tested_fault}
use Rattle.rcu_seq.specs.declared.fault.Fault.{Fault}
use Rattle.rcu_text.specs.Runs.{Ends, Finished, StoppedReading, StoppedWriting}
use Rattle.rcu_text.specs.declared.line_loop.StreamFault.{StreamFault}
use Rattle.rcu_text.specs.declared.line_loop.StreamFault.TheVariants as stream
use Rattle.rcu_script.specs.declared.runs.RunFault.{RunFault}
use Rattle.rcu_script.specs.declared.runs.RunFault.TheVariants.{Open, Read, Write}

-- why a run over the lines stopped, as a run's fault
abbrev pub fault_of : StreamFault → RunFault
fault_of stream.Read = Read
fault_of stream.Write = Write

-- how a run ends, if this is the first fault that the tests of its opening find: if it is refused,
-- nothing was read or written
abbrev pub RunsFromOpening : Result (Unit {0}) RunFault
    → Option Fault → (List (List ℕ) → List ℕ → Type 0) → Ends → Ends → Type 0
RunsFromOpening (Ok x) first IsText old new = (first ≡ None) × Finished IsText old new
RunsFromOpening (Err (Open fault)) first IsText old new =
    (tested_fault {A = Unit {0}} (Err fault) ≡ first) × (new ≡ old)
RunsFromOpening (Err Read) first IsText old new = (first ≡ None) × StoppedReading IsText old new
RunsFromOpening (Err Write) first IsText old new = (first ≡ None) × StoppedWriting IsText old new
