use Rattle.std.proofs.Common.{◌≡◌, ◌<◌, length, sym, subst, codes, arith}
use Rattle.std.specs.Prelude.{flat_map}
use Rattle.std.proofs.lemmas.Bool.Decides.{nat_tests}
use Rattle.std.proofs.lemmas.Result.{err_from_is_err_and}
use Rattle.rcu_text.specs.Outputs.{Puts, Stops}
use Rattle.rcu_text.specs.Texts.{space_and_number}
use Rattle.rcu_text.proofs.CallerLemmas.{list_put, list_stops, puts_two}
use Rattle.rcu_script.proofs.ListLemmas.{none_listed, some_listed, word_stops}
use Rattle.rcu_script.proofs.listed.put_listed.Goals as goal

pub returns-in_err-put_line : goal.returns-in_err-put_line
returns-in_err-put_line g c =
    let p = err_from_is_err_and c.from_residual.result c.from_residual.ensures.1 in
    rw (p.1)
    (word_stops _ _ c.args.word.now (g.L.Listed.items c.args.listed.now) c.in_err-put_line.ensures)

pub returns-then-is_empty : goal.returns-then-is_empty
returns-then-is_empty g c =
    let items = g.L.Listed.items c.args.listed.now in
    let none : length items ≡ 0 = grind (arith, nat_tests) in
    subst (Puts c.put_line-then-is_empty.result _ _) (sym (none_listed c.args.word.now items none))
    (puts_two c.put_line-then-is_empty.result _ _ _ c.args.word.now
    (codes " none\n") c.in_ok-put_line.ensures c.put_line-then-is_empty.ensures)

pub returns-in_err-put_items : goal.returns-in_err-put_items
returns-in_err-put_items g c =
    let p = err_from_is_err_and c.from_residual-in_err-put_items.result
    c.from_residual-in_err-put_items.ensures.1 in
    let items = g.L.Listed.items c.args.listed.now in
    let some : 0 < length items = grind (arith, nat_tests) in
    rw (p.1) (subst (Stops _ _) (sym (some_listed c.args.word.now items some))
    (list_stops _ _ _ c.args.word.now (flat_map space_and_number items)
    (codes "\n") c.in_ok-put_line.ensures c.in_err-put_items.ensures))

pub returns : goal.returns
returns g c =
    let items = g.L.Listed.items c.args.listed.now in
    let some : 0 < length items = grind (arith, nat_tests) in
    subst (Puts c.put_line-2.result _ _) (sym (some_listed c.args.word.now items some))
    (list_put c.put_line-2.result _ _ _ _ c.args.word.now (flat_map space_and_number items)
    (codes "\n") c.in_ok-put_line.ensures c.in_ok-put_items.ensures c.put_line-2.ensures)
