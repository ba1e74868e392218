use Rattle.std.proofs.Common.{◌++◌, ◌∷◌, [], refl, sym, ◌∙◌, append-nil, subst}
use Rattle.std.proofs.lemmas.Result.{err_from_is_err_and}
use Rattle.rcu_text.specs.Underway.{Underway}
use Rattle.rcu_text.proofs.UnderwayLemmas.{piece_line, piece_next, piece_rest, piece_stopped}
use Rattle.rcu_text.proofs.line_loop.take_lines.Goals as goal

pub loop-front-init : goal.loop-front-init
loop-front-init g c = record {
  done = [];
  whole = refl;
  goes = λ opened start bytes u.
      subst (Underway (g.A.Responder.past opened _) start _ _) (sym (append-nil bytes)) u;
  same = refl;
}

pub returns-in_err-end_line-clause-goes : goal.returns-in_err-end_line-clause-goes
returns-in_err-end_line-clause-goes g c = λ opened start bytes u.
    let p = err_from_is_err_and c.from_residual.result c.from_residual.ensures.1 in
    rw (p.1)
    (piece_stopped (g.A.Responder.past opened _) (g.A.Responder.past opened _) start _ _ _ bytes
    c.loop-front.invariant.done c.in-Some.front.now c.in-Some.behind.now c.args.piece.now _
    c.in-Some.ensures.front c.loop-front.invariant.whole c.in-Some.ensures.some
    (c.loop-front.invariant.goes opened start bytes u)
    (λ lines text begun told kept.
    c.in_err-end_line.ensures.goes opened lines text begun told kept))

pub loop-front-preserved : goal.loop-front-preserved
loop-front-preserved g c = record {
  done = c.loop-front.invariant.done ++ (c.in-Some.front.now ++ 10 ∷ []);
  whole = piece_next c.loop-front.invariant.done c.in-Some.front.now c.in-Some.behind.now
      c.args.piece.now _ c.loop-front.invariant.whole c.in-Some.ensures.some;
  goes = λ opened start bytes u. piece_line (g.A.Responder.past opened _)
      (g.A.Responder.past opened _) start _ _ _ _ bytes c.loop-front.invariant.done
      c.in-Some.front.now c.in-Some.ensures.front c.in_ok-end_line.ensures.empty
      (c.loop-front.invariant.goes opened start bytes u)
      (λ lines text begun told kept.
      c.in_ok-end_line.ensures.goes opened lines text begun told kept);
  same = c.in_ok-end_line.ensures.same ∙ c.loop-front.invariant.same;
}

pub returns-clause-goes : goal.returns-clause-goes
returns-clause-goes g c = λ opened start bytes u.
    piece_rest (g.A.Responder.past opened _) start _ _ _ bytes c.loop-front.invariant.done _
    c.args.piece.now c.in_default.ensures.none c.loop-front.invariant.whole c.extend.ensures
    (c.loop-front.invariant.goes opened start bytes u)
