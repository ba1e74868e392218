-- The output: the bytes that the writer took, and those that are buffered for it.
use Rattle.std.specs.Prelude.{◌≡◌, ◌++◌, ◌-◌, ℕ, true, List, [], length, Result, MatchResult}
use Rattle.std.specs.Borrow.{GName}
use Rattle.std.specs.Io.KnownBytes.{Appends}
use Rattle.rcu_text.specs.Streams.{Outgoing}

-- the writer, the bytes that are buffered for it, how many more may be, and which writer it is: a
-- name that distinguishes borrowed writers
pub record Out : Type 0 where
  pub writer : Outgoing
  pub waiting : List ℕ
  pub room : ℕ
  pub name : GName

-- no byte is buffered for this writer, and this number of bytes may be
abbrev pub waiting_for : Outgoing → GName → ℕ → Out
waiting_for writer name room = record { writer = writer; waiting = []; room = room; name = name }

-- with the text behind the buffered bytes
abbrev pub after_put_text : Out → List ℕ → Out
after_put_text out text = record out {
  waiting = out.waiting ++ text;
  room = out.room - length text;
}

-- the text went behind the buffered bytes: the writer took a prefix of all these bytes, and the
-- others are buffered
pub record Sends (old new : Out) (text : List ℕ) : Type 0 where
  pub front : List ℕ
  pub out : Appends old.writer.taken new.writer.taken front
  pub whole : old.waiting ++ text ≡ front ++ new.waiting
  pub sound : new.writer.failed ≡ old.writer.failed
  pub same : new.name ≡ old.name

-- the writer failed, and took a prefix of the buffered bytes and the text
pub record Stops (old new : Out) (text : List ℕ) : Type 0 where
  pub front : List ℕ
  pub left : List ℕ
  pub out : Appends old.writer.taken new.writer.taken front
  pub whole : old.waiting ++ text ≡ front ++ left
  pub failed : new.writer.failed ≡ true
  pub same : new.name ≡ old.name

-- the text is sent, or the writer failed
abbrev pub Puts : {X E : Type 0} → Result X E → Out → Out → List ℕ → Type 0
Puts r old new text = MatchResult r (λ _. Sends old new text) (λ _. Stops old new text)
