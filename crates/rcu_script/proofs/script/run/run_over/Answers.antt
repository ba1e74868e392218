use Rattle.std.proofs.Common.{[], refl, subst, sym}
use Rattle.std.proofs.lemmas.Result.{err_from_is_err_and}
use Rattle.rcu_core.specs.Replies.{Size}
use Rattle.rcu_script.specs.ScriptAnswers.{IsAnswer}
use Rattle.rcu_script.proofs.ExactLemmas.{is_answer}
use Rattle.rcu_script.proofs.RunLemmas.{finished_from, stopped_from}
use Rattle.rcu_script.proofs.script.run.run_over.Goals as goal

pub returns-in_err-core : goal.returns-in_err-core
returns-in_err-core g c =
    let p = err_from_is_err_and c.from_residual.result c.from_residual.ensures.1 in
    rw (p.1, p.2) (c.in_err-core.ensures.fault, refl)

pub returns-in_err-run : goal.returns-in_err-run
returns-in_err-run g c =
    let p =
    err_from_is_err_and c.from_residual-in_err-run.result c.from_residual-in_err-run.ensures.1 in
    rw (p.1)
    (stopped_from _ _ (λ lines text told. subst (λ (s : Size). IsAnswer s lines text)
    c.in_ok-core.ensures.size (is_answer _ lines text told.0 told.1))
    _ _ _ _ _ p.2 (sym c.in_ok-core.ensures.fault)
    (c.in_err-run.ensures ([], (refl, refl), refl, c.in_ok-core.ensures.fresh)))

pub returns : goal.returns
returns g c =
    finished_from _ _ (λ lines text told. subst (λ (s : Size). IsAnswer s lines text)
    c.in_ok-core.ensures.size (is_answer _ lines text told.0 told.1))
    _ _ _ (sym c.in_ok-core.ensures.fault)
    (c.in_ok-run.ensures ([], (refl, refl), refl, c.in_ok-core.ensures.fresh))
