use Rattle.std.proofs.lemmas.Result.{err_from_is_err_and}
use Rattle.rcu_text.specs.Texts.{space_and_number}
use Rattle.rcu_text.proofs.CallerLemmas.{item_sent, item_stops}
use Rattle.rcu_script.proofs.listed.put_cpus.Goals as goal

pub returns-in_err-put_spaced : goal.returns-in_err-put_spaced
returns-in_err-put_spaced g c =
    let p = err_from_is_err_and c.from_residual.result c.from_residual.ensures.1 in
    rw (p.1)
    (item_stops space_and_number _ _ _ c.args.cpus.now c.loop-cpu.cpu-index _ c.loop-cpu-test.true
    c.loop-cpu.invariant (rw c.from.ensures at c.in_err-put_spaced.ensures))

pub loop-cpu-preserved : goal.loop-cpu-preserved
loop-cpu-preserved g c =
    item_sent space_and_number _ _ _ c.args.cpus.now c.loop-cpu.cpu-index _ c.loop-cpu-test.true
    c.loop-cpu.invariant (rw c.from.ensures at c.in_ok-put_spaced.ensures)
