use Rattle.std.proofs.Common.{◌++◌, List, ℕ, Option, subst}
use Rattle.std.specs.Io.KnownBytes.{Consumes}
use Rattle.rcu_text.specs.Lines.{cut_of, lines_read}
use Rattle.rcu_script.specs.PairState.{pair_at}
use Rattle.rcu_script.specs.PairTexts.{pair_replies}
use Rattle.rcu_script.proofs.FrontLemmas.{begun_reading, begun_writing, pair_text_begins}
use Rattle.rcu_script.proofs.pair.laws.what_was_written_begins_the_right_text.Goals as goal

pub returns-clause-read : goal.returns-clause-read
returns-clause-read c = λ size all old new stopped known.
    let r = subst (λ (s : Option (List ℕ)). Consumes s new.reader.remaining stopped.bytes) known
    stopped.read in
    let first =
    c.lines_read_whole_come_first.ensures.ended all stopped.bytes new.reader.remaining r in
    let ended = (cut_of stopped.bytes).ended in
    begun_reading (pair_replies (pair_at size)) ended first.0 all stopped.answered.text
    old.writer.taken new.writer.taken first.1
    (pair_text_begins (pair_at size) ended first.0 stopped.answered.text stopped.answered.answer)
    stopped.answered.out

pub returns-clause-write : goal.returns-clause-write
returns-clause-write c = λ size all old new stopped known.
    let r = subst (λ (s : Option (List ℕ)). Consumes s new.reader.remaining stopped.bytes) known
    stopped.read in
    let first =
    c.lines_read_whole_come_first.ensures.read all stopped.bytes new.reader.remaining r in
    let b = stopped.broken in
    begun_writing (pair_replies (pair_at size)) (lines_read stopped.bytes new.reader.remaining)
    b.front b.later first.0 all b.written b.unwritten old.writer.taken new.writer.taken first.1
    b.split
    (pair_text_begins (pair_at size) b.front (b.later ++ first.0) (b.written ++ b.unwritten)
    b.answer)
    b.out
