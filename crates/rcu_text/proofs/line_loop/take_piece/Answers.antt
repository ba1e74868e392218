use Rattle.std.proofs.Common.{◌++◌}
use Rattle.rcu_text.proofs.UnderwayLemmas.{goes_on_flushed}
use Rattle.rcu_text.proofs.line_loop.take_piece.Goals as goal

pub returns-clause-goes : goal.returns-clause-goes
returns-clause-goes g c = λ opened start bytes u.
    goes_on_flushed _ (g.A.Responder.past opened _) start _ _ _ (bytes ++ c.args.piece.now)
    (c.in_ok-take_lines.ensures.goes opened start bytes u) c.flush.ensures.bytes
