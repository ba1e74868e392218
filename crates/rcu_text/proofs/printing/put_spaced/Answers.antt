use Rattle.std.proofs.Common.{◌∷◌, [], ◌∙◌, ap, decimal}
use Rattle.rcu_text.specs.Outputs.{Out, after_put_text}
use Rattle.std.proofs.lemmas.Result.{err_from_is_err_and}
use Rattle.rcu_text.proofs.OutputLemmas.{put_twice, sends_behind, stops_before_text}
use Rattle.rcu_text.proofs.printing.put_spaced.Goals as goal

pub returns-in_err-make_room : goal.returns-in_err-make_room
returns-in_err-make_room g c =
    let p = err_from_is_err_and c.from_residual.result c.from_residual.ensures.1 in
    rw (p.1) (stops_before_text _ _ _ c.in_err-make_room.ensures.bytes)

pub returns : goal.returns
returns g c =
    let e = c.push_number.ensures.puts
    ∙ ap (λ (o : Out). after_put_text o (decimal c.args.n)) c.put_byte.ensures
    ∙ put_twice _ (32 ∷ []) (decimal c.args.n) in
    sends_behind _ _ _ _ c.in_ok-make_room.ensures.bytes e
