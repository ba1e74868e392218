-- The end of a run over the lines, as the end of the whole run.
use Rattle.std.proofs.Common.{◌≡◌, ◌++◌, ℕ, List, Option, Some, None, Ok, Err, IfSome}
use Rattle.rcu_seq.specs.declared.fault.Fault.{Fault}
use Rattle.rcu_text.specs.Lines.{cut_of, lines_of, lines_read}
use Rattle.rcu_text.specs.Runs.{Answered, BrokenOff, Ends, Finished, RunsThrough}
use Rattle.rcu_text.specs.declared.line_loop.StreamFault.{StreamFault}
use Rattle.rcu_text.specs.declared.line_loop.StreamFault.TheVariants as stream
use Rattle.rcu_script.specs.RunEnds.{RunsFromOpening, fault_of}
use Rattle.rcu_script.specs.declared.runs.RunFault.{RunFault}

-- a relation of lines and a text
abbrev Past : Type 1
Past = List (List ℕ) → List ℕ → Type 0

-- ---- which texts answer

-- an answer by one relation is one by any that it implies
answered_by : (P Q : Past)
    → ((l : List (List ℕ)) (t : List ℕ) → P l t → Q l t)
    → (lines : List (List ℕ)) (old new : Option (List ℕ))
    → Answered P lines old new
    → Answered Q lines old new
answered_by P Q is lines old new a = record {
  text = a.text;
  answer = is lines a.text a.answer;
  out = a.out;
}

broken_by : (P Q : Past)
    → ((l : List (List ℕ)) (t : List ℕ) → P l t → Q l t)
    → (lines : List (List ℕ)) (old new : Option (List ℕ))
    → BrokenOff P lines old new
    → BrokenOff Q lines old new
broken_by P Q is lines old new b = record {
  front = b.front;
  later = b.later;
  split = b.split;
  written = b.written;
  unwritten = b.unwritten;
  answer = is b.front (b.written ++ b.unwritten) b.answer;
  out = b.out;
}

if_some_by : (s : Option (List ℕ)) (P Q : List ℕ → Type 0)
    → ((bytes : List ℕ) → P bytes → Q bytes) → IfSome s P → IfSome s Q
if_some_by None P Q is p = tt
if_some_by (Some bytes) P Q is p = is bytes p

module _ (P IsText : Past) (is : (l : List (List ℕ)) (t : List ℕ) → P l t → IsText l t)
    (old new : Ends) where
  -- a run that is open and ends well
  pub finished_from : (first : Option Fault) → first ≡ None → Finished P old new
      → RunsFromOpening (Ok tt) first IsText old new
  finished_from first none ran = (
    none,
    record {
      read_whole = ran.read_whole;
      answered =
          if_some_by old.reader.remaining
          (λ bytes. Answered P (lines_of bytes) old.writer.taken new.writer.taken)
          (λ bytes. Answered IsText (lines_of bytes) old.writer.taken new.writer.taken)
          (λ bytes. answered_by P IsText is (lines_of bytes) old.writer.taken new.writer.taken)
          ran.answered;
      read_sound = ran.read_sound;
      write_sound = ran.write_sound;
    },
  )

  -- a run that is open and stops
  pub stopped_from : (first : Option Fault) (f : StreamFault) (g : RunFault)
      → g ≡ fault_of f → first ≡ None → RunsThrough (Err f) P old new
      → RunsFromOpening (Err g) first IsText old new
  stopped_from first stream.Read g same none ran = rw same (
    none,
    record {
      bytes = ran.bytes;
      read = ran.read;
      answered = answered_by P IsText is (cut_of ran.bytes).ended old.writer.taken new.writer.taken
          ran.answered;
      failed = ran.failed;
      write_sound = ran.write_sound;
    },
  )
  stopped_from first stream.Write g same none ran = rw same (
    none,
    record {
      bytes = ran.bytes;
      read = ran.read;
      broken = broken_by P IsText is (lines_read ran.bytes new.reader.remaining) old.writer.taken
          new.writer.taken ran.broken;
      failed = ran.failed;
      read_sound = ran.read_sound;
    },
  )
