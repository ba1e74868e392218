use Rattle.std.proofs.Common.{◌≤◌, sym, arith, length}
use Rattle.rcu_node.proofs.CpuSetLemmas.{same_when_all_agree, other_where_one_differs}
use Rattle.rcu_node.proofs.merging.started_alike.Goals as goal

pub returns-then-starts : goal.returns-then-starts
returns-then-starts g c =
    let first = g.A.Awaited.start_set c.args.first.now in
    let second = g.B.Awaited.start_set c.args.second.now in
    let cpu = c.loop-cpu.cpu in
    sym
    (other_where_one_differs first second cpu c.starts.result c.starts-in-loop-cpu.result
    c.starts.ensures c.starts-in-loop-cpu.ensures c.if-starts.true)

pub returns : goal.returns
returns g c =
    let first = c.args.first.now in
    let second = c.args.second.now in
    let one = g.met.A.Awaited.alike first in
    let two = g.met.B.Awaited.alike second in
    let all : length (g.A.Awaited.start_set first) ≤ c.loop-cpu.cpu =
    omega (arith, one, c.cpus-cpu-end.ensures, c.loop-cpu-test.false) in
    sym
    (same_when_all_agree (g.A.Awaited.start_set first) (g.B.Awaited.start_set second)
    (omega (arith, one, two, c.requires))
    (λ cpu l. c.loop-cpu.invariant cpu (omega (arith, l, all))))
