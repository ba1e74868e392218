use Rattle.std.proofs.Common.{◌≤◌, arith}
use Rattle.rcu_node.proofs.NextCpus.{first_of, nobody_left, none_of}
use Rattle.rcu_node.proofs.Words.{cpus-is}
use Rattle.rcu_node.proofs.cpu_set.CpuSet.next_from.Goals as goal

pub bits_from-flags-requires-clause-from : goal.bits_from-flags-requires-clause-from
bits_from-flags-requires-clause-from c =
    let s = c.self.inside in
    let size = cpus-is s.cpus s.words.items c.args.self.now c.self.view_is in
    let within = c.loop-cpu-test.true in
    omega (arith, size, within)

pub returns-then-flags-ne0-clause-inside : goal.returns-then-flags-ne0-clause-inside
returns-then-flags-ne0-clause-inside c =
    let i = c.loop-cpu.invariant in
    (first_of c.args.self.now c.args.from c.loop-cpu.cpu c.bits_from-flags.result
    c.bits_from-flags.ensures (omega (arith, c.if-flags-ne0.true)) c.bits_from-flags.type_inv i.0
    i.1).inside

pub returns-then-flags-ne0-clause-here : goal.returns-then-flags-ne0-clause-here
returns-then-flags-ne0-clause-here c =
    let i = c.loop-cpu.invariant in
    (first_of c.args.self.now c.args.from c.loop-cpu.cpu c.bits_from-flags.result
    c.bits_from-flags.ensures (omega (arith, c.if-flags-ne0.true)) c.bits_from-flags.type_inv i.0
    i.1).here

pub returns-then-flags-ne0-clause-none_before : goal.returns-then-flags-ne0-clause-none_before
returns-then-flags-ne0-clause-none_before c =
    let i = c.loop-cpu.invariant in
    (first_of c.args.self.now c.args.from c.loop-cpu.cpu c.bits_from-flags.result
    c.bits_from-flags.ensures (omega (arith, c.if-flags-ne0.true)) c.bits_from-flags.type_inv i.0
    i.1).none

pub loop-cpu-preserved : goal.loop-cpu-preserved
loop-cpu-preserved c =
    let i = c.loop-cpu.invariant in (
      omega (arith, i.0),
      none_of c.args.self.now c.args.from c.loop-cpu.cpu c.bits_from-flags.result
          c.bits_from-flags.ensures c.if-flags-ne0.false i.1,
    )

pub returns-clause-none : goal.returns-clause-none
returns-clause-none c =
    let s = c.self.inside in
    let size = cpus-is s.cpus s.words.items c.args.self.now c.self.view_is in
    let past : _ ≤ c.loop-cpu.cpu = omega (arith, c.loop-cpu-test.false, size) in
    nobody_left c.args.self.now c.args.from c.loop-cpu.cpu past c.loop-cpu.invariant.1
