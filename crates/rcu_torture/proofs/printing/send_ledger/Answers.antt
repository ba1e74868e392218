use Rattle.std.proofs.lemmas.Result.{err_from_is_err_and}
use Rattle.rcu_text.proofs.CallerLemmas.{Stops-BreaksOff, writes_flushed}
use Rattle.rcu_torture.proofs.printing.send_ledger.Goals as goal

pub returns-in_err-put_ledger-clause-bytes : goal.returns-in_err-put_ledger-clause-bytes
returns-in_err-put_ledger-clause-bytes g c =
    let p = err_from_is_err_and c.from_residual.result c.from_residual.ensures.1 in
    rw (p.1) (Stops-BreaksOff _ _ _ c.requires c.in_err-put_ledger.ensures)

pub returns-clause-bytes : goal.returns-clause-bytes
returns-clause-bytes g c =
    writes_flushed c.flush.result _ _ _ _ c.requires c.in_ok-put_ledger.ensures
    c.flush.ensures.bytes c.flush.ensures.empty
