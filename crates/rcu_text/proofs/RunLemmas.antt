-- A run between two reads, and at its end.
use Rattle.std.proofs.Common.{◌≡◌, ◌<◌, ◌≤◌, ◌+◌, ◌-◌, ◌^◌, ℕ, true, List, [], ◌∷◌, ◌++◌, length}
use Rattle.std.proofs.Common.{take, Option, Some, None, refl, sym, ap, ◌∙◌, subst, arith}
use Rattle.std.proofs.Common.{append-nil, append_assoc, length-append, IfSome}
use Rattle.std.proofs.KnownBytes.{Consumes-nil, Consumes-trans, Consumes-kept, Consumes-whole}
use Rattle.std.proofs.lemmas.List.{length-take-le}
use Rattle.std.specs.Io.KnownBytes.{Consumes, Keeps, IsAtEnd}
use Rattle.rcu_text.specs.Lines.{cut_of, lines_of, lines_read}
use Rattle.rcu_text.specs.Outputs.{Out, Sends, Stops}
use Rattle.rcu_text.specs.Runs.{Answered, BrokenOff, Finished, StoppedReading, StoppedWriting}
use Rattle.rcu_text.specs.Runs.{ends_of}
use Rattle.rcu_text.specs.Streams.{Incoming}
use Rattle.rcu_text.specs.Underway.{LinesAreAnswered, StoppedAmong, Underway}
use Rattle.rcu_text.proofs.CutLemmas.{ended_among_lines}
use Rattle.rcu_text.proofs.OutputLemmas.{Sends-nil, Sends-taken, Stops-taken}

-- a relation of lines and a text
abbrev Past : Type 1
Past = List (List ℕ) → List ℕ → Type 0

-- the reads so far gave these bytes, and their lines are answered
pub record Midway (past : List (List ℕ) → List ℕ → Type 0) (source_old source_new : Option (List ℕ))
    (old new : Out) (line : List ℕ) (turns : ℕ) : Type 0 where
  pub bytes : List ℕ
  pub read : Consumes source_old source_new bytes
  pub underway : Underway past old new line bytes
  pub count : turns ≤ length bytes

pub midway_start : (past : Past) (s : Option (List ℕ)) (a : Out) (line : List ℕ)
    → past [] [] → line ≡ [] → Midway past s s a a line 0
unfolding cut_of
midway_start past s a line told begun = record {
  bytes = [];
  read = Consumes-nil s;
  underway = record {
    stands = record { text = []; told = told; out = Sends-nil a };
    holds = begun;
  };
  count = omega arith;
}

pub midway_next : (past later : Past) (s0 s1 s2 : Option (List ℕ)) (a b c : Out)
    (line next : List ℕ) (turns n : ℕ) (block piece : List ℕ)
    → Midway past s0 s1 a b line turns
    → Consumes s1 s2 (take n block)
    → 0 < n
    → n ≤ length block
    → piece ≡ take n block
    → ((bytes : List ℕ) → Underway past a b line bytes → Underway later a c next (bytes ++ piece))
    → Midway later s0 s2 a c next (turns + 1)
midway_next past later s0 s1 s2 a b c line next turns n block piece m r some fit e go =
    let k : length piece ≡ n = ap length e ∙ length-take-le n block fit in
    let l = length-append m.bytes piece in
    record {
      bytes = m.bytes ++ piece;
      read = Consumes-trans s0 s1 s2 m.bytes piece m.read (subst (Consumes s1 s2) (sym e) r);
      underway = go m.bytes m.underway;
      count = omega (arith, m.count);
    }

-- a read of nothing reads no byte more
nothing_more : (s0 s1 s2 : Option (List ℕ)) (bytes block : List ℕ) (n : ℕ)
    → Consumes s0 s1 bytes → n ≡ 0 → Consumes s1 s2 (take n block) → Consumes s0 s2 bytes
nothing_more s0 s1 s2 bytes block n r none q =
    let q0 : Consumes s1 s2 [] = subst (λ (k : ℕ). Consumes s1 s2 (take k block)) none q in
    subst (Consumes s0 s2) (append-nil bytes) (Consumes-trans s0 s1 s2 bytes [] r q0)

-- a read of nothing is the end of the input
pub whole_input : (s0 s1 s2 : Option (List ℕ)) (bytes block : List ℕ) (n : ℕ) (P : List ℕ → Type 0)
    → Consumes s0 s1 bytes → n ≡ 0 → Consumes s1 s2 (take n block) → IsAtEnd s2 → P bytes
    → IfSome s0 P
whole_input s0 s1 s2 bytes block n P r none q end p =
    Consumes-whole s0 s2 bytes P (nothing_more s0 s1 s2 bytes block n r none q) end p

-- ---- the bytes that were written

pub answered : (past : Past) (lines : List (List ℕ)) (a b : Out) → a.waiting ≡ [] → b.waiting ≡ []
    → LinesAreAnswered past lines (Sends a b) → Answered past lines a.writer.taken b.writer.taken
answered past lines a b before after s =
    record { text = s.text; answer = s.told; out = Sends-taken a b s.text before after s.out }

pub broken_off : (past : Past) (front later all : List (List ℕ)) (a b : Out)
    → all ≡ front ++ later → a.waiting ≡ [] → LinesAreAnswered past front (Stops a b)
    → BrokenOff past all a.writer.taken b.writer.taken
broken_off past front later all a b split before s = record {
  front = front;
  later = later;
  split = split;
  written = s.out.front;
  unwritten = s.out.left;
  answer = subst (λ (l : List ℕ). past front l) (Stops-taken a b s.text before s.out) s.told;
  out = s.out.out;
}

-- ---- how a run ends

-- a read failed
pub read_failed : (past : Past) (r0 r1 r2 : Incoming) (a b : Out) (line : List ℕ) (turns : ℕ)
    → Midway past r0.remaining r1.remaining a b line turns → a.waiting ≡ [] → b.waiting ≡ []
    → Keeps r1.remaining r2.remaining → r2.failed ≡ true
    → StoppedReading past (ends_of r0 a.writer) (ends_of r2 b.writer)
read_failed past r0 r1 r2 a b line turns m before after k e = record {
  bytes = m.bytes;
  read = Consumes-kept r0.remaining r1.remaining r2.remaining m.bytes m.read k;
  answered = answered past (cut_of m.bytes).ended a b before after m.underway.stands;
  failed = λ few. e;
  write_sound = m.underway.stands.out.sound;
}

-- as many reads as there are gave too many bytes

pub reads_over : (past : Past) (r0 r1 : Incoming) (a b : Out) (line : List ℕ) (turns : ℕ)
    → Midway past r0.remaining r1.remaining a b line turns
    → a.waiting ≡ []
    → b.waiting ≡ []
    → 2 ^ 64 - 1 ≤ turns
    → StoppedReading past (ends_of r0 a.writer) (ends_of r1 b.writer)
reads_over past r0 r1 a b line turns m before after most = record {
  bytes = m.bytes;
  read = m.read;
  answered = answered past (cut_of m.bytes).ended a b before after m.underway.stands;
  failed = λ few. absurd (omega (arith, m.count));
  write_sound = m.underway.stands.out.sound;
}

-- the input is over, and all is answered
pub finished : (past later : Past) (r0 r1 r2 : Incoming) (a b c : Out) (line block : List ℕ)
    (turns n : ℕ)
    → (m : Midway past r0.remaining r1.remaining a b line turns) → n ≡ 0
    → Consumes r1.remaining r2.remaining (take n block)
    → IsAtEnd r2.remaining
    → LinesAreAnswered later (lines_of m.bytes) (Sends a c)
    → a.waiting ≡ []
    → c.waiting ≡ []
    → r2.failed ≡ r0.failed
    → Finished later (ends_of r0 a.writer) (ends_of r2 c.writer)
finished past later r0 r1 r2 a b c line block turns n m zero q end s before after e = record {
  read_whole = end;
  answered =
      whole_input r0.remaining r1.remaining r2.remaining m.bytes block n
      (λ bytes. Answered later (lines_of bytes) a.writer.taken c.writer.taken) m.read zero q end
      (answered later (lines_of m.bytes) a c before after s);
  read_sound = e;
  write_sound = s.out.sound;
}

-- at the end of the input all lines were read whole
read_to_end : (bytes : List ℕ) (left : Option (List ℕ)) → IsAtEnd left
    → lines_read bytes left ≡ lines_of bytes
read_to_end bytes None end = refl
read_to_end bytes (Some []) end = refl
read_to_end bytes (Some (b ∷ left)) end = absurd (omega (arith, ap length end))

-- the input is over, and the writer failed
pub finish_failed : (past later : Past) (r0 r1 r2 : Incoming) (a b c : Out) (line block : List ℕ)
    (turns n : ℕ)
    → (m : Midway past r0.remaining r1.remaining a b line turns) → n ≡ 0
    → Consumes r1.remaining r2.remaining (take n block)
    → IsAtEnd r2.remaining
    → LinesAreAnswered later (lines_of m.bytes) (Stops a c)
    → a.waiting ≡ []
    → r2.failed ≡ r0.failed
    → StoppedWriting later (ends_of r0 a.writer) (ends_of r2 c.writer)
finish_failed past later r0 r1 r2 a b c line block turns n m zero q end s before e = record {
  bytes = m.bytes;
  read = nothing_more r0.remaining r1.remaining r2.remaining m.bytes block n m.read zero q;
  broken =
      broken_off later (lines_of m.bytes) [] (lines_read m.bytes r2.remaining) a c
      (read_to_end m.bytes r2.remaining end ∙ sym (append-nil (lines_of m.bytes))) before s;
  failed = s.out.failed;
  read_sound = e;
}

-- the ended lines were read whole
ended_were_read : (bytes : List ℕ) (left : Option (List ℕ))
    → (later : List (List ℕ)) × (lines_read bytes left ≡ (cut_of bytes).ended ++ later)
ended_were_read bytes None = ended_among_lines bytes
ended_were_read bytes (Some []) = ended_among_lines bytes
ended_were_read bytes (Some (b ∷ left)) = ([], sym (append-nil (cut_of bytes).ended))

-- an answer that breaks off among the ended lines does so among those that were read completely
broken_among : (past : Past) (left : Option (List ℕ)) (a c : Out) (bytes : List ℕ) → a.waiting ≡ []
    → StoppedAmong past (cut_of bytes).ended (Stops a c)
    → BrokenOff past (lines_read bytes left) a.writer.taken c.writer.taken
broken_among past left a c bytes before s =
    let k = ended_were_read bytes left in
    let split : lines_read bytes left ≡ s.front ++ (s.later ++ k.0) =
    k.1 ∙ ap (λ (l : List (List ℕ)). l ++ k.0) s.split ∙ append_assoc s.front s.later k.0 in
    broken_off past s.front (s.later ++ k.0) (lines_read bytes left) a c split before s.stands

-- the writer failed in the answers to a piece
pub piece_failed : (past later : Past) (r0 r1 r2 : Incoming) (a b c : Out)
    (line block piece : List ℕ) (turns n : ℕ)
    → (m : Midway past r0.remaining r1.remaining a b line turns)
    → Consumes r1.remaining r2.remaining (take n block)
    → piece ≡ take n block
    → StoppedAmong later (cut_of (m.bytes ++ piece)).ended (Stops a c)
    → a.waiting ≡ []
    → r2.failed ≡ r0.failed
    → StoppedWriting later (ends_of r0 a.writer) (ends_of r2 c.writer)
piece_failed past later r0 r1 r2 a b c line block piece turns n m q e s before same = record {
  bytes = m.bytes ++ piece;
  read = Consumes-trans r0.remaining r1.remaining r2.remaining m.bytes piece m.read
      (subst (Consumes r1.remaining r2.remaining) (sym e) q);
  broken = broken_among later r2.remaining a c (m.bytes ++ piece) before s;
  failed = s.stands.out.failed;
  read_sound = same;
}
