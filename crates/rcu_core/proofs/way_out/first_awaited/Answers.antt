use Rattle.std.proofs.Common.{◌<◌, ◌≤◌, ◌∙◌, arith, length, rules, sym}
use Rattle.rcu_node.specs.CpuSet.{is_in}
use Rattle.rcu_core.proofs.WayOut.{fails_below, find_first, find_none}
use Rattle.rcu_core.proofs.way_out.first_awaited.Goals as goal

pub loop-cpu-init : goal.loop-cpu-init
loop-cpu-init g c = λ k l. absurd (omega (arith, l))

pub loop-cpu-preserved : goal.loop-cpu-preserved
loop-cpu-preserved g c =
    fails_below (is_in (g.A.Awaited.awaited c.args.awaited.now)) c.loop-cpu.cpu
    c.loop-cpu.invariant (sym c.awaits.ensures ∙ c.if-awaits.false)

pub returns-then-awaits : goal.returns-then-awaits
returns-then-awaits g c =
    let set = g.A.Awaited.awaited c.args.awaited.now in
    let within : c.loop-cpu.cpu < length set = search rules in
    sym
    (find_first (is_in set) 0 (length set) c.loop-cpu.cpu (omega arith) (omega (arith, within))
    (sym c.awaits.ensures ∙ c.if-awaits.true) (λ k l m. c.loop-cpu.invariant k m))

pub returns : goal.returns
returns g c =
    let set = g.A.Awaited.awaited c.args.awaited.now in
    let all : length set ≤ c.loop-cpu.cpu =
    omega (arith, c.cpus-cpu-end.ensures, c.loop-cpu-test.false) in
    sym
    (find_none (is_in set) 0 (length set)
    (λ k l m. c.loop-cpu.invariant k (omega (arith, m, all))))
