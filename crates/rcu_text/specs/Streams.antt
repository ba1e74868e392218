-- Sources and sinks of bytes.
use Rattle.std.specs.Prelude.{◌≡◌, ◌++◌, ℕ, Bool, true, List, Option, Result, MatchResult}
use Rattle.std.specs.Io.KnownBytes.{Appends}

-- the bytes that further reads return, if they are known, and whether a read failed
pub record Incoming : Type 0 where
  pub remaining : Option (List ℕ)
  pub failed : Bool

-- the bytes that a writer took, if they are known, and whether a write failed
pub record Outgoing : Type 0 where
  pub taken : Option (List ℕ)
  pub failed : Bool

-- the writer took these bytes
pub record Takes (old new : Outgoing) (bytes : List ℕ) : Type 0 where
  pub out : Appends old.taken new.taken bytes
  pub sound : new.failed ≡ old.failed

-- the writer failed, and took a prefix of these bytes
pub record BreaksOff (old new : Outgoing) (bytes : List ℕ) : Type 0 where
  pub front : List ℕ
  pub left : List ℕ
  pub whole : bytes ≡ front ++ left
  pub out : Appends old.taken new.taken front
  pub failed : new.failed ≡ true

-- the bytes are written, or the writer failed
abbrev pub Writes : {X E : Type 0} → Result X E → Outgoing → Outgoing → List ℕ → Type 0
Writes r old new bytes = MatchResult r (λ _. Takes old new bytes) (λ _. BreaksOff old new bytes)
