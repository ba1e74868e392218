use Rattle.std.proofs.Common.{◌≡◌, ◌∙◌, ◌++◌, List, ℕ, ap, append_assoc, codes, decimal, subst}
use Rattle.std.proofs.lemmas.Result.{err_from_is_err_and}
use Rattle.rcu_text.specs.Outputs.{Out, Sends, after_put_text}
use Rattle.rcu_text.proofs.CallerLemmas.{put_twice, sends_behind, stops_before_text}
use Rattle.rcu_script.specs.ScriptTexts.{epoch_text}
use Rattle.rcu_script.proofs.script.print.put_made.Goals as goal

-- four texts that are put one after another are put as one
put_four : (o : Out) (p q r s : List ℕ)
    → after_put_text (after_put_text (after_put_text (after_put_text o p) q) r) s
    ≡ after_put_text o (((p ++ q) ++ r) ++ s)
put_four o p q r s =
    ap (λ (b : Out). after_put_text (after_put_text b r) s) (put_twice o p q)
    ∙ ap (λ (b : Out). after_put_text b s) (put_twice o (p ++ q) r)
    ∙ put_twice o ((p ++ q) ++ r) s

-- the parts of the line, in order
regroup : (p a q b r c s : List ℕ)
    → (((p ++ a) ++ (q ++ b)) ++ (r ++ c)) ++ s ≡ p ++ (a ++ (q ++ (b ++ (r ++ (c ++ s)))))
regroup p a q b r c s = simp append_assoc

pub returns-in_err-make_room : goal.returns-in_err-make_room
returns-in_err-make_room g c =
    let p = err_from_is_err_and c.from_residual.result c.from_residual.ensures.1 in
    rw (p.1) (stops_before_text _ _ _ c.in_err-make_room.ensures.bytes)

pub returns : goal.returns
returns g c =
    let place = decimal c.args.place in
    let cpu = decimal c.from.result in
    let tag = decimal c.args.report.tag.number in
    let end = epoch_text c.args.report.tag.epoch in
    let e = c.push_epoch.ensures
    ∙ ap (λ (o : Out). after_put_text o end) c.push_numbered-3.ensures.puts
    ∙ ap (λ (o : Out). after_put_text (after_put_text o (codes " tag " ++ tag)) end)
    c.push_numbered-2.ensures.puts
    ∙ ap (λ (o : Out). after_put_text (after_put_text (after_put_text o (codes " cpu " ++ cpu))
    (codes " tag " ++ tag)) end) c.push_numbered.ensures.puts
    ∙ put_four _ (codes "report " ++ place) (codes " cpu " ++ cpu) (codes " tag " ++ tag) end in
    subst (Sends (g.O.Output.out c.args.out.now) (g.O.Output.out c.push_epoch.new.out))
    (regroup (codes "report ") place (codes " cpu ") cpu (codes " tag ") tag end
    ∙ ap (λ (n : ℕ). codes "report " ++ (place ++ (codes " cpu " ++ (decimal n
    ++ (codes " tag " ++ (tag ++ end)))))) c.from.ensures)
    (sends_behind _ _ _ _ c.in_ok-make_room.ensures.bytes e)
