use Rattle.std.proofs.Common.{◌<◌, ◌≤◌, ◌∙◌, arith, length, refl}
use Rattle.rcu_text.proofs.RunLemmas.{finish_failed, finished, midway_next, midway_start}
use Rattle.rcu_text.proofs.RunLemmas.{piece_failed, read_failed, reads_over}
use Rattle.rcu_text.proofs.line_loop.run_through.Goals as goal

pub loop-turn-init : goal.loop-turn-init
loop-turn-init g c = record {
  goes = λ told. midway_start (g.A.Responder.past _ _) _ _ _ told c.new-line.ensures;
  empty = c.requires;
  sound = refl;
  same = refl;
}

pub returns-in-Err-clause-ran : goal.returns-in-Err-clause-ran
returns-in-Err-clause-ran g c = λ told.
    read_failed (g.A.Responder.past _ _) _ (g.R.Source.incoming c.loop-turn.reader) _ _ _ _
    c.loop-turn._turn (c.loop-turn.invariant.goes told) c.requires c.loop-turn.invariant.empty
    c.in-Err.ensures.bytes c.in-Err.ensures.failed

pub returns-in-Ok-finish-clause-ran : goal.returns-in-Ok-finish-clause-ran
returns-in-Ok-finish-clause-ran g c = λ told.
    let m = c.loop-turn.invariant.goes told in
    let room : 0 < length c.read.new.buf = omega arith in
    finished (g.A.Responder.past _ _) (g.A.Responder.past _ _) _
    (g.R.Source.incoming c.loop-turn.reader) _ _ _ _ _ c.read.new.buf c.loop-turn._turn c.in-Ok.read
    m c.if-read-eq0.true c.in-Ok.ensures.bytes.0 (c.in-Ok.ensures.bytes.1 c.if-read-eq0.true room)
    (c.in-Ok-finish.ensures.goes _ _ m.bytes m.underway) c.requires c.in-Ok-finish.ensures.empty
    (c.in-Ok.ensures.sound ∙ c.loop-turn.invariant.sound)

pub returns-in-Err-finish-clause-ran : goal.returns-in-Err-finish-clause-ran
returns-in-Err-finish-clause-ran g c = λ told.
    let m = c.loop-turn.invariant.goes told in
    let room : 0 < length c.read.new.buf = omega arith in
    finish_failed (g.A.Responder.past _ _) (g.A.Responder.past _ _) _
    (g.R.Source.incoming c.loop-turn.reader) _ _ _ _ _ c.read.new.buf c.loop-turn._turn c.in-Ok.read
    m c.if-read-eq0.true c.in-Ok.ensures.bytes.0 (c.in-Ok.ensures.bytes.1 c.if-read-eq0.true room)
    (c.in-Err-finish.ensures.goes _ _ m.bytes m.underway) c.requires
    (c.in-Ok.ensures.sound ∙ c.loop-turn.invariant.sound)

pub returns-in-Err-take_piece-clause-ran : goal.returns-in-Err-take_piece-clause-ran
returns-in-Err-take_piece-clause-ran g c = λ told.
    let m = c.loop-turn.invariant.goes told in
    piece_failed (g.A.Responder.past _ _) (g.A.Responder.past _ _) _
    (g.R.Source.incoming c.loop-turn.reader) _ _ _ _ _ c.read.new.buf _ c.loop-turn._turn
    c.in-Ok.read m c.in-Ok.ensures.bytes.0 c.split_at.ensures.front
    (c.in-Err-take_piece.ensures.goes _ _ m.bytes m.underway) c.requires
    (c.in-Ok.ensures.sound ∙ c.loop-turn.invariant.sound)

pub loop-turn-preserved : goal.loop-turn-preserved
loop-turn-preserved g c =
    let some : 0 < c.in-Ok.read = omega arith in
    let fits : c.in-Ok.read ≤ length c.read.new.buf = omega arith in
    record {
      goes = λ told. midway_next (g.A.Responder.past _ _) (g.A.Responder.past _ _) _ _ _ _ _ _ _ _
          c.loop-turn._turn c.in-Ok.read c.read.new.buf _ (c.loop-turn.invariant.goes told)
          c.in-Ok.ensures.bytes.0 some fits c.split_at.ensures.front
          (λ bytes u. c.in-Ok-take_piece.ensures.goes _ _ bytes u);
      empty = c.in-Ok-take_piece.ensures.empty;
      sound = c.in-Ok.ensures.sound ∙ c.loop-turn.invariant.sound;
      same = c.in-Ok-take_piece.ensures.same ∙ c.loop-turn.invariant.same;
    }

pub returns-clause-ran : goal.returns-clause-ran
returns-clause-ran g c = λ told.
    let most = c.loop-turn-test.false in
    reads_over (g.A.Responder.past _ _) _ _ _ _ _ c.loop-turn._turn
    (c.loop-turn.invariant.goes told) c.requires c.loop-turn.invariant.empty (omega arith)
