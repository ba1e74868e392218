-- The consequences of an accepted call for its processor.
use Rattle.std.proofs.Common.{◌≡◌, ◌≢◌, ◌<◌, true, false, arith}
use Rattle.std.proofs.lemmas.Bool.Decides.{nat_tests}
use Rattle.rcu_seq.specs.declared.tag.Tag.{Tag}
use Rattle.rcu_cpu.specs.CpuData.{Processor, Enter, Exit, Note, Quiesce, Arrive, Depart, Idle, Wake}
use Rattle.rcu_cpu.specs.CpuData.{IsAccepted, deepest}

-- an enter: the processor is online and not idle, and the depth is not the deepest
pub accepted_enter : (p : Processor) → IsAccepted p Enter
    → (p.online ≡ true) × (p.idle ≡ false) × (p.depth ≢ deepest)
accepted_enter p e = grind (arith, nat_tests, e)

-- an exit: a section is open
pub accepted_exit : (p : Processor) → IsAccepted p Exit → 0 < p.depth
accepted_exit p e = grind (arith, nat_tests, e)

-- an exit is accepted if a section is open
pub exit_accepted : (p : Processor) → 0 < p.depth → IsAccepted p Exit
exit_accepted p deep = grind (arith, nat_tests, deep)

-- a note: the processor is online
pub accepted_note : (p : Processor) (now : Tag) → IsAccepted p (Note now) → p.online ≡ true
accepted_note p now e = grind (arith, nat_tests, e)

-- a quiescent state: the processor is online and not idle, and no section is open
pub accepted_quiesce : (p : Processor) → IsAccepted p Quiesce
    → (p.online ≡ true) × (p.idle ≡ false) × (p.depth ≡ 0)
accepted_quiesce p e = grind (arith, nat_tests, e)

-- an arrival: the processor is offline
pub accepted_arrive : (p : Processor) (now : Tag) → IsAccepted p (Arrive now) → p.online ≡ false
accepted_arrive p now e = grind (arith, nat_tests, e)

-- a departure: the processor is online, and no section is open
pub accepted_depart : (p : Processor) → IsAccepted p Depart → (p.online ≡ true) × (p.depth ≡ 0)
accepted_depart p e = grind (arith, nat_tests, e)

-- it goes idle: it is online and not idle, and no section is open
pub accepted_idle : (p : Processor) → IsAccepted p Idle
    → (p.online ≡ true) × (p.idle ≡ false) × (p.depth ≡ 0)
accepted_idle p e = grind (arith, nat_tests, e)

-- it wakes: it is online and idle
pub accepted_wake : (p : Processor) → IsAccepted p Wake → (p.online ≡ true) × (p.idle ≡ true)
accepted_wake p e = grind (arith, nat_tests, e)

-- a quiescent state is accepted if the processor is online and not idle and no section is open
pub quiesce_accepted : (p : Processor) → p.online ≡ true → p.idle ≡ false → p.depth ≡ 0
    → IsAccepted p Quiesce
quiesce_accepted p there awake none = grind (arith, nat_tests, there, awake, none)
