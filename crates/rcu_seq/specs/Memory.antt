-- Calls whose allocation may be refused.
use Rattle.std.specs.Prelude.{Option, Some, None, Result, Ok, Err}
use Rattle.rcu_seq.specs.declared.fault.Fault.{Fault}
use Rattle.rcu_seq.specs.declared.fault.Fault.TheVariants.{NoMemory}

-- the fault that a call's tests found, before it asked for memory: none if the call is accepted, or
-- if memory is refused
abbrev pub tested_fault : {A : Type 0} → Result A Fault → Option Fault
tested_fault (Ok value) = None
tested_fault (Err NoMemory) = None
tested_fault (Err fault) = Some fault
