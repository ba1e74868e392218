use Rattle.std.proofs.Common.{◌≤◌, arith, length}
use Rattle.rcu_node.proofs.MergingLemmas.{same_standing}
use Rattle.rcu_node.proofs.Merges.{cut_all}
use Rattle.rcu_node.specs.Merging.{after_merge, standing}
use Rattle.rcu_node.proofs.merging.merge.Goals as goal

pub returns-clause-awaited : goal.returns-clause-awaited
returns-clause-awaited g c =
    let set = g.A.Awaited.awaited c.args.to.now in
    let all : length set ≤ c.loop-cpu.cpu =
    omega (arith, c.cpus-cpu-end.ensures, c.loop-cpu-test.false) in
    cut_all c.loop-cpu.cpu set (g.B.Awaited.awaited c.args.from.now)
    (g.A.Awaited.awaited c.loop-cpu.to) all c.loop-cpu.invariant.cut

pub returns-clause-state : goal.returns-clause-state
returns-clause-state g c =
    let before =
    standing (g.A.Awaited.tag c.args.to.now) (g.A.Awaited.start_set c.args.to.now)
    (g.A.Awaited.awaited c.args.to.now) in
    let other =
    standing (g.B.Awaited.tag c.args.from.now) (g.B.Awaited.start_set c.args.from.now)
    (g.B.Awaited.awaited c.args.from.now) in
    let after =
    standing (g.A.Awaited.tag c.loop-cpu.to) (g.A.Awaited.start_set c.loop-cpu.to)
    (g.A.Awaited.awaited c.loop-cpu.to) in
    same_standing after (after_merge before other) c.loop-cpu.invariant.tag
    c.loop-cpu.invariant.start_set (returns-clause-awaited g c)
