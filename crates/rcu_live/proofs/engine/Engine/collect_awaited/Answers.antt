use Rattle.std.proofs.Common.{◌≡◌, ◌+◌, ◌<◌, ◌∙◌, ap, arith, length, refl, sym}
use Rattle.rcu_live.specs.Engine.{Locked, latest_words}
use Rattle.rcu_live.proofs.Collections.{all_collected, awaited_still, collected_below, cpus_still}
use Rattle.rcu_live.proofs.Collections.{none_collected, one_collected, passed_by}
use Rattle.rcu_live.proofs.engine.Engine.collect_awaited.Goals as goal

pub loop-cpu-init : goal.loop-cpu-init
loop-cpu-init g c = (
  none_collected c.args.self.now (latest_words c.args.self.now),
  λ i. c.args.self.now.cpus,
  omega arith,
)

pub loop-cpu-preserved : goal.loop-cpu-preserved
loop-cpu-preserved g c =
    let e = c.args.self.now in
    let now = c.loop-cpu.self in
    let from = c.loop-cpu.from in
    let i = c.loop-cpu.invariant in
    let n = c.in-Some.cpu in
    let next = c.in-Some.ensures.first in
    let long = cpus_still e now from (latest_words now) i.0 in
    let inside : n < length e.grace.processors.awaited = omega (arith, next.inside, long) in
    let here = sym (awaited_still e now from n (latest_words now) next.later i.0) ∙ next.here in
    let passed = passed_by e now from n next.later
    (λ d after less.
    sym (awaited_still e now from d (latest_words now) after i.0) ∙ next.none d after less)
    i.0 in
    let state : c.collect_from.new.self
    ≡ collected_below e (n + 1) (latest_words c.collect_from.new.self) =
    one_collected e now c.collect_from.new.self n c.requires inside here passed
    c.collect_from.ensures in (
      state,
      ap (λ (y : Locked g.row.P-Known.Denot g.row.T.Denot). y.cpus) state,
      omega (arith, next.inside, c.next_awaited.ensures.cpus, i.1),
    )

pub returns : goal.returns
returns g c =
    let e = c.args.self.now in
    let now = c.loop-cpu.self in
    let from = c.loop-cpu.from in
    let i = c.loop-cpu.invariant in
    let none = c.next_awaited.ensures.none c.in_default.is in
    let long : length e.grace.processors.awaited ≡ e.cpus =
    sym (cpus_still e now from (latest_words now) i.0) ∙ c.next_awaited.ensures.cpus ∙ i.1 in
    let passed = passed_by e now from e.cpus i.2
    (λ d after less. sym (awaited_still e now from d (latest_words now) after i.0) ∙ none d after)
    i.0 in
    record { may = c.requires; left = all_collected e now e.cpus long refl passed }
