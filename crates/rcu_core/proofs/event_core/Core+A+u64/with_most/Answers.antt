use Rattle.std.proofs.Common.{◌≡◌, ℕ, List, ◌∙◌, ap, arith, length, rules}
use Rattle.rcu_hotplug.specs.Hotplug.{cpus_of}
use Rattle.rcu_cpu.specs.CpuData.{Processor}
use Rattle.rcu_state.specs.GpState.{Grace, at_first}
use Rattle.rcu_core.proofs.Follows.{has_first}
use Rattle.rcu_core.proofs.Sound.{first_count, first_cpus, first_more, first_size, sound_first}
use Rattle.rcu_core.proofs.event_core.Core+A+u64.with_most.Goals as goal

-- the loop ended at the state's number of processors, so that it made each of them
all_made : (n last most end made : ℕ) (grace : Grace ℕ) (cpus : List Processor)
    → grace ≡ at_first n last most
    → end ≡ cpus_of grace.processors
    → made ≡ end
    → cpus ≡ first_cpus made
    → cpus ≡ first_cpus n
all_made n last most end made grace cpus first all at is =
    is ∙ ap (λ k. first_cpus k) (omega (arith, first_count n last most grace first, all, at))

pub loop-cpu-preserved : goal.loop-cpu-preserved
loop-cpu-preserved g c = first_more _ _ _ c.loop-cpu.invariant (search rules)

pub invariant_of-result : goal.invariant_of-result
invariant_of-result g c =
    let n = length (g.A.Awaited.awaited c.args.inner) in
    let grace : c.in_ok-gp.gp.grace ≡ at_first n c.args.last c.args.most = search rules in
    let cpus = all_made n _ _ _ _ _ _ grace c.cpus-cpu-end.ensures.value
    (omega (arith, c.loop-cpu-test.false, c.loop-cpu.auto.cpu-end)) c.loop-cpu.invariant in
    record {
      sound = sound_first n c.args.last c.args.most _ (g.met.A.Awaited.some c.args.inner) grace cpus
          c.new-2.ensures.items;
    }

pub returns-clause-situation : goal.returns-clause-situation
returns-clause-situation g c =
    let n = length (g.A.Awaited.awaited c.args.inner) in
    let grace : c.in_ok-gp.gp.grace ≡ at_first n c.args.last c.args.most = search rules in
    let cpus = all_made n _ _ _ _ _ _ grace c.cpus-cpu-end.ensures.value
    (omega (arith, c.loop-cpu-test.false, c.loop-cpu.auto.cpu-end)) c.loop-cpu.invariant in
    has_first n c.args.last c.args.most _ (g.met.A.Awaited.some c.args.inner) grace cpus
    c.new-2.ensures.items

pub returns-clause-size : goal.returns-clause-size
returns-clause-size g c =
    let n = length (g.A.Awaited.awaited c.args.inner) in
    let grace : c.in_ok-gp.gp.grace ≡ at_first n c.args.last c.args.most = search rules in
    first_size n c.args.last c.args.most (record {
      grace = c.in_ok-gp.gp.grace;
      cpus = c.loop-cpu.cpus.items;
      made = c.new-2.result.items;
    }) grace
