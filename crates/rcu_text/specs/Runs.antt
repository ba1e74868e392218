-- The answer of a run over the lines of a reader, and its end. A relation `IsText` gives the texts
-- that answer lines.
use Rattle.std.specs.Prelude.{◌≡◌, ◌<◌, ◌^◌, ◌-◌, ◌++◌, ℕ, true, List, length, Option, Result, Ok}
use Rattle.std.specs.Prelude.{Err, IfSome}
use Rattle.std.specs.Io.KnownBytes.{Appends, Consumes, IsAtEnd}
use Rattle.rcu_text.specs.Lines.{cut_of, lines_of, lines_read}
use Rattle.rcu_text.specs.Streams.{Incoming, Outgoing}
use Rattle.rcu_text.specs.declared.line_loop.StreamFault.{StreamFault}
use Rattle.rcu_text.specs.declared.line_loop.StreamFault.TheVariants.{Read, Write}

-- the two ends of a run
pub record Ends : Type 0 where
  pub reader : Incoming
  pub writer : Outgoing

-- the two ends, by their parts
abbrev pub ends_of : Incoming → Outgoing → Ends
ends_of reader writer = record { reader = reader; writer = writer }

-- an answer to the lines was written
pub record Answered (IsText : List (List ℕ) → List ℕ → Type 0) (lines : List (List ℕ))
    (old new : Option (List ℕ)) : Type 0 where
  pub text : List ℕ
  pub answer : IsText lines text
  pub out : Appends old new text

-- a prefix of an answer to the first lines was written
pub record BrokenOff (IsText : List (List ℕ) → List ℕ → Type 0) (lines : List (List ℕ))
    (old new : Option (List ℕ)) : Type 0 where
  pub front : List (List ℕ)
  pub later : List (List ℕ)
  pub split : lines ≡ front ++ later
  pub written : List ℕ
  pub unwritten : List ℕ
  pub answer : IsText front (written ++ unwritten)
  pub out : Appends old new written

-- a prefix of this text was written
pub record BegunToWrite (text : List ℕ) (old new : Option (List ℕ)) : Type 0 where
  pub written : List ℕ
  pub unwritten : List ℕ
  pub split : text ≡ written ++ unwritten
  pub out : Appends old new written

-- the input was read to its end, and all its lines are answered
pub record Finished (IsText : List (List ℕ) → List ℕ → Type 0) (old new : Ends) : Type 0 where
  pub read_whole : IsAtEnd new.reader.remaining
  pub answered : IfSome old.reader.remaining
      (λ bytes. Answered IsText (lines_of bytes) old.writer.taken new.writer.taken)
  pub read_sound : new.reader.failed ≡ old.reader.failed
  pub write_sound : new.writer.failed ≡ old.writer.failed

-- a read failed, and the lines that were read completely are answered. A run stops so without a
-- failed read only after 2^64 - 1 bytes
pub record StoppedReading (IsText : List (List ℕ) → List ℕ → Type 0) (old new : Ends) : Type 0 where
  pub bytes : List ℕ
  pub read : Consumes old.reader.remaining new.reader.remaining bytes
  pub answered : Answered IsText (cut_of bytes).ended old.writer.taken new.writer.taken
  pub failed : length bytes < 2 ^ 64 - 1 → new.reader.failed ≡ true
  pub write_sound : new.writer.failed ≡ old.writer.failed

-- a write failed, in an answer to the first of the lines that were read completely
pub record StoppedWriting (IsText : List (List ℕ) → List ℕ → Type 0) (old new : Ends) : Type 0 where
  pub bytes : List ℕ
  pub read : Consumes old.reader.remaining new.reader.remaining bytes
  pub broken : BrokenOff IsText (lines_read bytes new.reader.remaining) old.writer.taken
      new.writer.taken
  pub failed : new.writer.failed ≡ true
  pub read_sound : new.reader.failed ≡ old.reader.failed

-- how a run over the lines of a reader ends
abbrev pub RunsThrough : Result (Unit {0}) StreamFault
    → (List (List ℕ) → List ℕ → Type 0) → Ends → Ends → Type 0
RunsThrough (Ok x) IsText old new = Finished IsText old new
RunsThrough (Err Read) IsText old new = StoppedReading IsText old new
RunsThrough (Err Write) IsText old new = StoppedWriting IsText old new
