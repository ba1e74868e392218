use Rattle.std.proofs.Common.{◌≤◌, ap, arith, length}
use Rattle.rcu_report.specs.Batch.{Gathered}
use Rattle.rcu_report.proofs.Batches.{counted_all, left_by_all}
use Rattle.rcu_report.proofs.batch.Batch.apply.Goals as goal

pub returns-clause-count : goal.returns-clause-count
returns-clause-count g c =
    let loop = c.loop-cpu in
    let all = counted_all loop.cpu c.args.self.now (g.A.Awaited.tag c.args.to.now)
    (g.A.Awaited.awaited c.args.to.now)
    (g.A.Awaited.awaited loop.to) loop.invariant.sized loop.invariant.cleared in
    omega (arith, all, loop.invariant.counted)

pub returns-clause-state : goal.returns-clause-state
returns-clause-state g c =
    let loop = c.loop-cpu in
    let tag = loop.invariant.tag in
    let start_set = loop.invariant.start_set in
    let same = ap (λ (batch : Gathered). length batch.set) c.self.view_is in
    let past : length (g.A.Awaited.awaited c.args.to.now) ≤ loop.cpu =
    omega (arith, same, c.requires, c.cpus-cpu-end.ensures.value) in
    let awaited = left_by_all loop.cpu c.args.self.now (g.A.Awaited.tag c.args.to.now)
    (g.A.Awaited.awaited c.args.to.now)
    (g.A.Awaited.awaited loop.to) loop.invariant.sized past loop.invariant.cleared in
    cc (tag, start_set, awaited)
