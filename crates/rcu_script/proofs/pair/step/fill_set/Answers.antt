use Rattle.std.proofs.Common.{◌≡◌, ◌<◌, ◌∙◌, ap, arith, length, get_or}
use Rattle.std.proofs.lemmas.List.{take_all}
use Rattle.rcu_script.specs.PairState.{set_of}
use Rattle.rcu_node.proofs.CpuSetLemmas.{length-listed}
use Rattle.rcu_script.proofs.PairSets.{set_more}
use Rattle.rcu_script.proofs.pair.step.fill_set.Goals as goal

pub insert-requires : goal.insert-requires
insert-requires c =
    let low : get_or c.args.cpus.now c.loop-cpu.cpu-index 0 < length c.args.set.now =
    c.requires c.loop-cpu.cpu-index 0 c.loop-cpu-test.true in
    let sized : length c.loop-cpu.set ≡ length c.args.set.now = ap length c.loop-cpu.invariant
    ∙ length-listed (length c.args.set.now) _ in
    omega arith

pub loop-cpu-preserved : goal.loop-cpu-preserved
loop-cpu-preserved c =
    set_more (length c.args.set.now) c.args.cpus.now c.loop-cpu.cpu-index c.loop-cpu.set
    c.insert.new.self c.loop-cpu-test.true (c.requires c.loop-cpu.cpu-index 0 c.loop-cpu-test.true)
    c.loop-cpu.invariant c.insert.ensures.set

pub returns-clause-set : goal.returns-clause-set
returns-clause-set c =
    c.loop-cpu.invariant
    ∙ ap (set_of (length c.args.set.now)) (take_all c.loop-cpu.cpu-index c.args.cpus.now
    (omega (arith, c.loop-cpu-test.false)))

pub returns-clause-sized : goal.returns-clause-sized
returns-clause-sized c = ap length c.loop-cpu.invariant ∙ length-listed (length c.args.set.now) _
