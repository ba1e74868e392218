use Rattle.std.proofs.Common.{ap, ◌∙◌, arith}
use Rattle.rcu_live.specs.Engine.{Locked}
use Rattle.rcu_graph.specs.declared.known.Planned.{Planned}
use Rattle.rcu_c.proofs.BarrierRuns.{one_tended, same_barrier, tended_more}
use Rattle.rcu_c.proofs.barrier_steps.tend_each.Goals as goal

pub loop-cpu-preserved : goal.loop-cpu-preserved
loop-cpu-preserved c =
    let i = c.loop-cpu.invariant in
    let now = c.loop-cpu.engine in
    let cpu = c.loop-cpu.cpu in
    let one = one_tended now c.tend.new.self cpu c.tend.result
    (omega (arith, c.loop-cpu-test.true, c.cpus-cpu-end.ensures, c.loop-cpu.auto.cpu-end, i.1))
    c.tend.ensures.made c.tend.ensures.fault in (
      tended_more c.args.engine.now now c.tend.new.self cpu i.0 one,
      ap (λ (x : Locked Planned _). x.cpus) one ∙ i.1,
    )

pub returns-clause-running : goal.returns-clause-running
returns-clause-running c =
    ap (λ (x : Locked Planned _). x.grace.lists.running) c.loop-cpu.invariant.0
    ∙ same_barrier c.args.engine.now c.loop-cpu.cpu
