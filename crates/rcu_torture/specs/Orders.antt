-- The effect of an order between a reader and a writer.
use Rattle.std.specs.Prelude.{◌≡◌, ℕ, List, Result, Ok, Err, length}
use Rattle.rcu_seq.specs.declared.fault.Fault.{Fault}
use Rattle.rcu_core.specs.declared.reply.Reply.TheVariants as reply
use Rattle.rcu_text.specs.Runs.{Ends}
use Rattle.rcu_text.specs.Streams.{BreaksOff, Outgoing, Takes}
use Rattle.rcu_script.specs.PairRuns.{RunsPair}
use Rattle.rcu_script.specs.ScriptAnswers.{RunsScript}
use Rattle.rcu_script.specs.ScriptTexts.{text_of}
use Rattle.rcu_script.specs.declared.runs.RunFault.{RunFault}
use Rattle.rcu_script.specs.declared.runs.RunFault.TheVariants.{Open, Read, Write}
use Rattle.rcu_command.specs.declared.command.Order.{Order}
use Rattle.rcu_command.specs.declared.command.Order.TheVariants.{Script, Pair, Torture}
use Rattle.rcu_stress.specs.Ledger.{Account}
use Rattle.rcu_torture.specs.LedgerText.{ledger_text}

-- the ledger of a run with a share for each worker was printed, or the writer failed in its lines;
-- at a fault nothing was printed
abbrev pub PrintsRun : Result (Unit {0}) RunFault → ℕ → ℕ → Outgoing → Outgoing → Type 0
PrintsRun (Ok x) workers rounds old new =
    (ledger : Account)
    × (length ledger.shares ≡ workers)
    × Takes old new (ledger_text workers rounds ledger)
PrintsRun (Err Read) workers rounds old new = ⊥
PrintsRun (Err Write) workers rounds old new =
    (ledger : Account)
    × (length ledger.shares ≡ workers)
    × BreaksOff old new (ledger_text workers rounds ledger)
PrintsRun (Err (Open fault)) workers rounds old new = new ≡ old

-- the order was done: the lines were answered as those of a script, or of a pair; or nothing was
-- read, and the ledger of a torture run was printed
abbrev pub Answers : Result (Unit {0}) RunFault → Order → Ends → Ends → Type 0
Answers ran (Script setup) old new = RunsScript ran setup old new
Answers ran (Pair setup) old new = RunsPair ran setup old new
Answers ran (Torture workers rounds seed) old new =
    (new.reader ≡ old.reader) × PrintsRun ran workers rounds old.writer new.writer

-- the line of a fault, in the form of a reply
abbrev pub fault_line : Fault → List ℕ
fault_line fault = text_of (reply.Fault fault)

-- the fault's line was printed, or the writer failed in it
abbrev pub TellsFault : Fault → Result (Unit {0}) RunFault → Outgoing → Outgoing → Type 0
TellsFault fault (Ok x) old new = ⊥
TellsFault fault (Err Read) old new = ⊥
TellsFault fault (Err Write) old new = BreaksOff old new (fault_line fault)
TellsFault fault (Err (Open told)) old new = (told ≡ fault) × Takes old new (fault_line fault)

-- the end of a run was reported: the fault for which it was refused is printed, and nothing for any
-- other end
abbrev pub Tells : Result (Unit {0}) RunFault → Result (Unit {0}) RunFault → Outgoing → Outgoing
    → Type 0
Tells (Ok x) result old new = (result ≡ Ok x) × (new ≡ old)
Tells (Err Read) result old new = (result ≡ Err Read) × (new ≡ old)
Tells (Err Write) result old new = (result ≡ Err Write) × (new ≡ old)
Tells (Err (Open fault)) result old new = TellsFault fault result old new

-- the order was performed: it was done, with this end, and then the end was reported
pub record Performs (result : Result (Unit {0}) RunFault) (order : Order)
    (old new : Ends) : Type 0 where
  pub ran : Result (Unit {0}) RunFault
  pub between : Ends
  pub answered : Answers ran order old between
  pub read : new.reader ≡ between.reader
  pub told : Tells ran result between.writer new.writer

-- the status with which the program ends
abbrev pub exit_status : Result (Unit {0}) RunFault → ℕ
exit_status (Ok x) = 0
exit_status (Err fault) = 1
