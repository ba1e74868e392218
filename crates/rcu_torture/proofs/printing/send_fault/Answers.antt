use Rattle.std.proofs.lemmas.Result.{err_from_is_err_and}
use Rattle.rcu_text.proofs.CallerLemmas.{Stops-BreaksOff, writes_flushed}
use Rattle.rcu_torture.proofs.printing.send_fault.Goals as goal

pub returns-in_err-put_reply-clause-bytes : goal.returns-in_err-put_reply-clause-bytes
returns-in_err-put_reply-clause-bytes g c =
    let p = err_from_is_err_and c.from_residual.result c.from_residual.ensures.1 in
    rw (p.1) (Stops-BreaksOff _ _ _ c.requires c.in_err-put_reply.ensures)

pub returns-clause-bytes : goal.returns-clause-bytes
returns-clause-bytes g c =
    writes_flushed c.flush.result _ _ _ _ c.requires c.in_ok-put_reply.ensures c.flush.ensures.bytes
    c.flush.ensures.empty
