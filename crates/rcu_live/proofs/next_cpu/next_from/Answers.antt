use Rattle.std.proofs.Common.{◌≤◌, ◌∙◌, sym, arith}
use Rattle.rcu_node.proofs.CpuSetLemmas.{nobody_in}
use Rattle.rcu_live.proofs.NextCpus.{first_of, nobody_left, none_of}
use Rattle.rcu_live.proofs.next_cpu.next_from.Goals as goal

pub returns-then-count-eq0-clause-none : goal.returns-then-count-eq0-clause-none
returns-then-count-eq0-clause-none c =
    λ _ cpu far. nobody_in c.args.set.now (sym c.count.ensures ∙ c.if-count-eq0.true) cpu

pub returns-then-flags-ne0-clause-first : goal.returns-then-flags-ne0-clause-first
returns-then-flags-ne0-clause-first c =
    let i = c.loop-cpu.invariant in
    first_of c.args.set.now c.args.from c.loop-cpu.cpu c.bits_from-flags.result
    c.bits_from-flags.ensures (omega (arith, c.if-flags-ne0.true)) c.bits_from-flags.type_inv i.0
    i.1

pub returns-then-flags-ne0-clause-few : goal.returns-then-flags-ne0-clause-few
returns-then-flags-ne0-clause-few c =
    let i = c.loop-cpu.invariant in
    let next = first_of c.args.set.now c.args.from c.loop-cpu.cpu c.bits_from-flags.result
    c.bits_from-flags.ensures (omega (arith, c.if-flags-ne0.true)) c.bits_from-flags.type_inv i.0
    i.1 in
    omega (arith, next.inside, c.cpus-end.ensures.value, c.cpus-end.ensures.few)

pub loop-cpu-preserved : goal.loop-cpu-preserved
loop-cpu-preserved c =
    let i = c.loop-cpu.invariant in (
      omega (arith, i.0),
      none_of c.args.set.now c.args.from c.loop-cpu.cpu c.bits_from-flags.result
          c.bits_from-flags.ensures c.if-flags-ne0.false i.1,
    )

pub returns-clause-none : goal.returns-clause-none
returns-clause-none c =
    let past : _ ≤ c.loop-cpu.cpu =
    omega (arith, c.loop-cpu-test.false, c.cpus-end.ensures.value) in
    λ _. nobody_left c.args.set.now c.args.from c.loop-cpu.cpu past c.loop-cpu.invariant.1
