use Rattle.std.proofs.Common.{◌≡◌, ◌++◌, length, arith}
use Rattle.std.proofs.lemmas.Bool.Decides.{nat_tests}
use Rattle.std.proofs.lemmas.Result.{err_from_is_err_and}
use Rattle.rcu_text.proofs.LineLemmas.{kept_begun, nothing_begun}
use Rattle.rcu_text.proofs.UnderwayLemmas.{one_more}
use Rattle.rcu_text.proofs.line_loop.end_line.Goals as goal

pub returns-then-is_empty-clause-goes : goal.returns-then-is_empty-clause-goes
returns-then-is_empty-clause-goes g c = λ opened lines text begun told kept.
    let none : length c.args.line.now ≡ 0 = grind (arith, nat_tests) in
    one_more _ _ _ opened lines text (begun ++ c.args.front.now) _ c.reply_to.ensures told
    (nothing_begun begun c.args.line.now c.args.front.now kept none)

pub returns-in_err-reply_to-clause-goes : goal.returns-in_err-reply_to-clause-goes
returns-in_err-reply_to-clause-goes g c = λ opened lines text begun told kept.
    let p = err_from_is_err_and c.from_residual.result c.from_residual.ensures.1 in
    let e = kept_begun begun c.args.line.now c.extend.new.self c.args.front.now _ kept
    c.extend.ensures c.as_slice.ensures in
    rw (p.1)
    (one_more _ _ _ opened lines text (begun ++ c.args.front.now) _ c.in_err-reply_to.ensures told
    e)

pub returns-clause-goes : goal.returns-clause-goes
returns-clause-goes g c = λ opened lines text begun told kept.
    let e = kept_begun begun c.args.line.now c.extend.new.self c.args.front.now _ kept
    c.extend.ensures c.as_slice.ensures in
    one_more _ _ _ opened lines text (begun ++ c.args.front.now) _ c.in_ok-reply_to.ensures told e
