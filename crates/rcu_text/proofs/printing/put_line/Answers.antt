use Rattle.std.proofs.lemmas.Result.{err_from_is_err_and}
use Rattle.rcu_text.proofs.OutputLemmas.{sends_behind, stops_before_text}
use Rattle.rcu_text.proofs.printing.put_line.Goals as goal

pub returns-in_err-make_room : goal.returns-in_err-make_room
returns-in_err-make_room g c =
    let p = err_from_is_err_and c.from_residual.result c.from_residual.ensures.1 in
    rw (p.1) (stops_before_text _ _ c.args.line.now c.in_err-make_room.ensures.bytes)

pub returns : goal.returns
returns g c = sends_behind _ _ _ c.args.line.now c.in_ok-make_room.ensures.bytes c.put_text.ensures
