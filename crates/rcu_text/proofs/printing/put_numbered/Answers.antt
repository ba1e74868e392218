use Rattle.std.proofs.Common.{◌∷◌, [], ◌∙◌, ap, append_assoc, decimal, subst}
use Rattle.rcu_text.specs.Outputs.{Out, Sends, after_put_text}
use Rattle.rcu_text.specs.Texts.{text_and_number}
use Rattle.std.proofs.lemmas.Result.{err_from_is_err_and}
use Rattle.rcu_text.proofs.OutputLemmas.{put_twice, sends_behind, stops_before_text}
use Rattle.rcu_text.proofs.printing.put_numbered.Goals as goal

pub returns-in_err-make_room : goal.returns-in_err-make_room
returns-in_err-make_room g c =
    let p = err_from_is_err_and c.from_residual.result c.from_residual.ensures.1 in
    rw (p.1) (stops_before_text _ _ _ c.in_err-make_room.ensures.bytes)

pub returns : goal.returns
returns g c =
    let e = c.put_byte.ensures
    ∙ ap (λ (o : Out). after_put_text o (10 ∷ [])) c.push_numbered.ensures.puts
    ∙ put_twice _ (text_and_number c.args.text.now c.args.n) (10 ∷ []) in
    subst (Sends (g.O.Output.out c.args.out.now) (g.O.Output.out c.put_byte.new.self))
    (append_assoc c.args.text.now (decimal c.args.n) (10 ∷ []))
    (sends_behind _ _ _ _ c.in_ok-make_room.ensures.bytes e)
