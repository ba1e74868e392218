use Rattle.std.proofs.Common.{◌<◌, length, arith}
use Rattle.std.proofs.lemmas.Result.{err_from_is_err_and}
use Rattle.rcu_text.specs.Texts.{space_and_number}
use Rattle.rcu_text.proofs.CallerLemmas.{item_sent, item_stops}
use Rattle.rcu_script.proofs.listed.put_values.Goals as goal

pub returns-in_err-put_spaced : goal.returns-in_err-put_spaced
returns-in_err-put_spaced g c =
    let p = err_from_is_err_and c.from_residual.result c.from_residual.ensures.1 in
    let inside : c.loop-index.index < length c.args.values.now = omega
    (arith, c.loop-index-test.true, c.len-index-end.ensures) in
    rw (p.1)
    (item_stops space_and_number _ _ _ c.args.values.now c.loop-index.index 0 inside
    c.loop-index.invariant (rw c.value.ensures at c.in_err-put_spaced.ensures))

pub loop-index-preserved : goal.loop-index-preserved
loop-index-preserved g c =
    let inside : c.loop-index.index < length c.args.values.now = omega
    (arith, c.loop-index-test.true, c.len-index-end.ensures) in
    item_sent space_and_number _ _ _ c.args.values.now c.loop-index.index 0 inside
    c.loop-index.invariant (rw c.value.ensures at c.in_ok-put_spaced.ensures)
