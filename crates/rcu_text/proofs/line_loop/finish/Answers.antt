use Rattle.std.proofs.Common.{◌≡◌, ◌<◌, length, arith}
use Rattle.std.proofs.lemmas.Bool.Decides.{nat_tests}
use Rattle.std.proofs.lemmas.Result.{err_from_is_err_and}
use Rattle.rcu_text.specs.Lines.{lines_of}
use Rattle.rcu_text.proofs.LineLemmas.{kept_whole}
use Rattle.rcu_text.proofs.UnderwayLemmas.{finish_ended, finish_line, finish_stopped, one_more}
use Rattle.rcu_text.proofs.UnderwayLemmas.{stands_flushed}
use Rattle.rcu_text.proofs.line_loop.finish.Goals as goal

pub returns-then-is_empty-clause-goes : goal.returns-then-is_empty-clause-goes
returns-then-is_empty-clause-goes g c = λ opened start bytes u.
    let none : length c.args.line.now ≡ 0 = grind (arith, nat_tests) in
    finish_ended _ (g.A.Responder.past opened _) start _ _ _ bytes none u c.flush.ensures.bytes

pub returns-in_err-reply_to-clause-goes : goal.returns-in_err-reply_to-clause-goes
returns-in_err-reply_to-clause-goes g c = λ opened start bytes u.
    let p = err_from_is_err_and c.from_residual.result c.from_residual.ensures.1 in
    let some : 0 < length c.args.line.now = grind (arith, nat_tests) in
    rw (p.1)
    (finish_stopped (g.A.Responder.past opened _) (g.A.Responder.past opened _) start _ _
    c.args.line.now bytes some u
    (λ lines text whole told kept. one_more _ _ _ opened lines text whole _
    c.in_err-reply_to.ensures told (kept_whole whole _ _ kept c.as_slice.ensures)))

pub returns-clause-goes : goal.returns-clause-goes
returns-clause-goes g c = λ opened start bytes u.
    let some : 0 < length c.args.line.now = grind (arith, nat_tests) in
    stands_flushed _ (g.A.Responder.past opened _) (lines_of bytes) start _ _
    (finish_line (g.A.Responder.past opened _) (g.A.Responder.past opened _) start _ _
    c.args.line.now bytes some u
    (λ lines text whole told kept. one_more _ _ _ opened lines text whole _ c.in_ok-reply_to.ensures
    told (kept_whole whole _ _ kept c.as_slice.ensures)))
    c.flush-2.ensures.bytes
