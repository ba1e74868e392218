use Rattle.std.proofs.Common.{◌<◌, length, take, ap, sym, ◌∙◌, arith}
use Rattle.std.proofs.lemmas.List.{length-set}
use Rattle.rcu_node.specs.CpuSet.{is_in}
use Rattle.rcu_c.proofs.HandedOut.{rest_more}
use Rattle.rcu_c.proofs.Listed.{count_yes, listed_full_to, listed_passed, listed_yes}
use Rattle.rcu_c.proofs.driving.list_awaited.Goals as goal

pub loop-cpu-preserved : goal.loop-cpu-preserved
loop-cpu-preserved c =
    let cpu = c.in-Some.cpu in
    let next = c.in-Some.ensures.first in
    let count = c.loop-cpu.count in
    let cpus = c.loop-cpu.cpus in
    let room = length c.args.cpus.now in
    let so_far = c.loop-cpu.invariant in
    let awaited = is_in c.args.engine.now.grace.processors.awaited in
    let passed = listed_passed awaited c.loop-cpu.from cpu next.later next.none in
    let counted = so_far.count ∙ ap (λ l. length (take room l)) (sym passed) in
    let inside : count < length cpus =
    omega (arith, c.if-count-cpus.false, so_far.same, so_far.fits) in
    let free : count < room = omega (arith, inside, so_far.same) in
    record {
      count = count_yes awaited cpu room count next.here free counted;
      head =
          listed_yes awaited cpu room count cpus next.here free counted
          (so_far.head ∙ ap (λ l. take room l) (sym passed)) inside;
      rest = rest_more count cpu c.args.cpus.now cpus so_far.rest;
      same = length-set cpus count cpu ∙ so_far.same;
      fits = omega (arith, free);
      few = omega (arith, so_far.few, next.later);
      inside = omega (arith, next.inside, c.next_awaited.ensures.cpus);
    }

pub returns-then-count-cpus-clause-count : goal.returns-then-count-cpus-clause-count
returns-then-count-cpus-clause-count c =
    let so_far = c.loop-cpu.invariant in
    let room = length c.args.cpus.now in
    let awaited = is_in c.args.engine.now.grace.processors.awaited in
    so_far.count
    ∙ ap (λ l. length l)
    (sym
    (listed_full_to awaited c.loop-cpu.from c.args.engine.now.cpus room so_far.inside
    (omega (arith, c.if-count-cpus.true, so_far.same, so_far.count))))

pub returns-then-count-cpus-clause-head : goal.returns-then-count-cpus-clause-head
returns-then-count-cpus-clause-head c =
    let so_far = c.loop-cpu.invariant in
    let room = length c.args.cpus.now in
    let awaited = is_in c.args.engine.now.grace.processors.awaited in
    so_far.head
    ∙ sym
    (listed_full_to awaited c.loop-cpu.from c.args.engine.now.cpus room so_far.inside
    (omega (arith, c.if-count-cpus.true, so_far.same, so_far.count)))

pub returns-clause-count : goal.returns-clause-count
returns-clause-count c =
    let so_far = c.loop-cpu.invariant in
    let room = length c.args.cpus.now in
    let awaited = is_in c.args.engine.now.grace.processors.awaited in
    let none = c.next_awaited.ensures.none c.in_default.is in
    so_far.count
    ∙ ap (λ l. length (take room l))
    (sym
    (listed_passed awaited c.loop-cpu.from c.args.engine.now.cpus so_far.inside
    (λ i later _. none i later)))

pub returns-clause-head : goal.returns-clause-head
returns-clause-head c =
    let so_far = c.loop-cpu.invariant in
    let room = length c.args.cpus.now in
    let awaited = is_in c.args.engine.now.grace.processors.awaited in
    let none = c.next_awaited.ensures.none c.in_default.is in
    so_far.head
    ∙ ap (λ l. take room l)
    (sym
    (listed_passed awaited c.loop-cpu.from c.args.engine.now.cpus so_far.inside
    (λ i later _. none i later)))
