use Rattle.std.proofs.Common.{ℕ, List, ◌++◌, codes}
use Rattle.std.proofs.lemmas.Result.{err_from_is_err_and}
use Rattle.rcu_text.specs.Texts.{numbered_text}
use Rattle.rcu_text.proofs.CallerLemmas.{Sends-Stops, Stops-before, puts_two}
use Rattle.rcu_stress.specs.Ledger.{Account, early_in, queued_in, ran_in, twice_in}
use Rattle.rcu_torture.proofs.printing.put_ledger.Goals as goal

-- the lines, and from each one on all later ones
abbrev from_twice : Account → List ℕ
from_twice a = numbered_text (codes "twice ") (twice_in a)

abbrev from_early : Account → List ℕ
from_early a = numbered_text (codes "early ") (early_in a) ++ from_twice a

abbrev from_ran : Account → List ℕ
from_ran a = numbered_text (codes "ran ") (ran_in a) ++ from_early a

abbrev from_queued : Account → List ℕ
from_queued a = numbered_text (codes "queued ") (queued_in a) ++ from_ran a

abbrev from_rounds : ℕ → Account → List ℕ
from_rounds rounds a = numbered_text (codes "rounds ") rounds ++ from_queued a

pub returns-in_err-put_numbered : goal.returns-in_err-put_numbered
returns-in_err-put_numbered g c =
    let a = c.args.ledger.now in
    let p = err_from_is_err_and c.from_residual.result c.from_residual.ensures.1 in
    rw (p.1)
    (Stops-before _ _ (numbered_text (codes "workers ") c.args.workers)
    (from_rounds c.args.rounds a) (rw c.from.ensures at c.in_err-put_numbered.ensures))

pub returns-in_err-put_numbered-2 : goal.returns-in_err-put_numbered-2
returns-in_err-put_numbered-2 g c =
    let a = c.args.ledger.now in
    let p = err_from_is_err_and c.from_residual-in_err-put_numbered-2.result
    c.from_residual-in_err-put_numbered-2.ensures.1 in
    rw (p.1)
    (Sends-Stops _ _ _ (numbered_text (codes "workers ") c.args.workers)
    (from_rounds c.args.rounds a) (rw c.from.ensures at c.in_ok-put_numbered.ensures)
    (Stops-before _ _ (numbered_text (codes "rounds ") c.args.rounds) (from_queued a)
    (rw c.from-2.ensures at c.in_err-put_numbered-2.ensures)))

pub returns-in_err-put_numbered-3 : goal.returns-in_err-put_numbered-3
returns-in_err-put_numbered-3 g c =
    let a = c.args.ledger.now in
    let p = err_from_is_err_and c.from_residual-in_err-put_numbered-3.result
    c.from_residual-in_err-put_numbered-3.ensures.1 in
    rw (p.1)
    (Sends-Stops _ _ _ (numbered_text (codes "workers ") c.args.workers)
    (from_rounds c.args.rounds a) (rw c.from.ensures at c.in_ok-put_numbered.ensures)
    (Sends-Stops _ _ _ (numbered_text (codes "rounds ") c.args.rounds) (from_queued a)
    (rw c.from-2.ensures at c.in_ok-put_numbered-2.ensures)
    (Stops-before _ _ (numbered_text (codes "queued ") (queued_in a)) (from_ran a)
    (rw c.queued.ensures at c.in_err-put_numbered-3.ensures))))

pub returns-in_err-put_numbered-4 : goal.returns-in_err-put_numbered-4
returns-in_err-put_numbered-4 g c =
    let a = c.args.ledger.now in
    let p = err_from_is_err_and c.from_residual-in_err-put_numbered-4.result
    c.from_residual-in_err-put_numbered-4.ensures.1 in
    rw (p.1)
    (Sends-Stops _ _ _ (numbered_text (codes "workers ") c.args.workers)
    (from_rounds c.args.rounds a) (rw c.from.ensures at c.in_ok-put_numbered.ensures)
    (Sends-Stops _ _ _ (numbered_text (codes "rounds ") c.args.rounds) (from_queued a)
    (rw c.from-2.ensures at c.in_ok-put_numbered-2.ensures)
    (Sends-Stops _ _ _ (numbered_text (codes "queued ") (queued_in a)) (from_ran a)
    (rw c.queued.ensures at c.in_ok-put_numbered-3.ensures)
    (Stops-before _ _ (numbered_text (codes "ran ") (ran_in a)) (from_early a)
    (rw c.ran.ensures at c.in_err-put_numbered-4.ensures)))))

pub returns-in_err-put_numbered-5 : goal.returns-in_err-put_numbered-5
returns-in_err-put_numbered-5 g c =
    let a = c.args.ledger.now in
    let p = err_from_is_err_and c.from_residual-in_err-put_numbered-5.result
    c.from_residual-in_err-put_numbered-5.ensures.1 in
    rw (p.1)
    (Sends-Stops _ _ _ (numbered_text (codes "workers ") c.args.workers)
    (from_rounds c.args.rounds a) (rw c.from.ensures at c.in_ok-put_numbered.ensures)
    (Sends-Stops _ _ _ (numbered_text (codes "rounds ") c.args.rounds) (from_queued a)
    (rw c.from-2.ensures at c.in_ok-put_numbered-2.ensures)
    (Sends-Stops _ _ _ (numbered_text (codes "queued ") (queued_in a)) (from_ran a)
    (rw c.queued.ensures at c.in_ok-put_numbered-3.ensures)
    (Sends-Stops _ _ _ (numbered_text (codes "ran ") (ran_in a)) (from_early a)
    (rw c.ran.ensures at c.in_ok-put_numbered-4.ensures)
    (Stops-before _ _ (numbered_text (codes "early ") (early_in a)) (from_twice a)
    (rw c.early.ensures at c.in_err-put_numbered-5.ensures))))))

pub returns : goal.returns
returns g c =
    let a = c.args.ledger.now in
    puts_two c.put_numbered-6.result _ _ _ (numbered_text (codes "workers ") c.args.workers)
    (from_rounds c.args.rounds a) (rw c.from.ensures at c.in_ok-put_numbered.ensures)
    (puts_two c.put_numbered-6.result _ _ _ (numbered_text (codes "rounds ") c.args.rounds)
    (from_queued a) (rw c.from-2.ensures at c.in_ok-put_numbered-2.ensures)
    (puts_two c.put_numbered-6.result _ _ _ (numbered_text (codes "queued ") (queued_in a))
    (from_ran a) (rw c.queued.ensures at c.in_ok-put_numbered-3.ensures)
    (puts_two c.put_numbered-6.result _ _ _ (numbered_text (codes "ran ") (ran_in a)) (from_early a)
    (rw c.ran.ensures at c.in_ok-put_numbered-4.ensures)
    (puts_two c.put_numbered-6.result _ _ _ (numbered_text (codes "early ") (early_in a))
    (from_twice a) (rw c.early.ensures at c.in_ok-put_numbered-5.ensures)
    (rw c.twice.ensures at c.put_numbered-6.ensures)))))
