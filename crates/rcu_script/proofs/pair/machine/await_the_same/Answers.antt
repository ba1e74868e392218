use Rattle.std.proofs.Common.{◌≤◌, sym, arith, length}
use Rattle.rcu_node.proofs.CpuSetLemmas.{same_when_all_agree, other_where_one_differs}
use Rattle.rcu_script.proofs.pair.machine.await_the_same.Goals as goal

pub returns-then-awaits : goal.returns-then-awaits
returns-then-awaits g c =
    let first = g.A.Awaited.awaited c.args.first.now in
    let second = g.B.Awaited.awaited c.args.second.now in
    sym (other_where_one_differs first second c.loop-cpu.cpu c.awaits.result
    c.awaits-in-loop-cpu.result c.awaits.ensures c.awaits-in-loop-cpu.ensures c.if-awaits.true)

pub returns : goal.returns
returns g c =
    let first = g.A.Awaited.awaited c.args.first.now in
    let second = g.B.Awaited.awaited c.args.second.now in
    let all : length first ≤ c.loop-cpu.cpu =
    omega (arith, c.cpus-cpu-end.ensures, c.loop-cpu-test.false) in
    sym (same_when_all_agree first second c.requires
    (λ cpu l. c.loop-cpu.invariant cpu (omega (arith, l, all))))
