use Rattle.std.proofs.Common.{◌≡◌, ◌≤◌, ◌<◌, ap, sym, ◌∙◌, arith, length, slice_set, Bool, false}
use Rattle.std.proofs.Common.{true}
use Rattle.std.proofs.lemmas.List.{length-replicate}
use Rattle.rcu_node.proofs.CpuSetLemmas.{length-listed}
use Rattle.rcu_c.proofs.FromWords.{filled_all, filled_more, filled_none, filled_same}
use Rattle.rcu_c.proofs.open_replica.fill.Goals as goal
use Rattle.rcu_c.proofs.open_replica.fill.Goals.{then-has, else-has}

pub loop-cpu-init : goal.loop-cpu-init
loop-cpu-init c = c.clear.ensures ∙ filled_none (length c.args.set.now) c.args.words.now

pub insert-requires : goal.insert-requires
insert-requires c =
    let sized : length c.loop-cpu.set ≡ length c.args.set.now = ap length c.loop-cpu.invariant
    ∙ length-listed (length c.args.set.now) _ in
    let all : length c.clear.new.self ≡ length c.args.set.now = ap length c.clear.ensures
    ∙ length-replicate {A = Bool} (length c.args.set.now) false in
    omega (arith, sized, all, c.loop-cpu-test.true, c.cpus-cpu-end.ensures.value)

pub loop-cpu-preserved : goal.loop-cpu-preserved
loop-cpu-preserved c =
    let n = length c.args.set.now in
    let words = c.args.words.now in
    let cpu = c.loop-cpu.cpu in
    let all : length c.clear.new.self ≡ n =
    ap length c.clear.ensures ∙ length-replicate {A = Bool} n false in
    let low : cpu < n = omega (arith, all, c.loop-cpu-test.true, c.cpus-cpu-end.ensures.value) in
    elim c.if-has.branch [
      | then-has w ↦
          w.set-is
          ∙ w.insert.ensures.set
          ∙ ap (λ set. slice_set set cpu true) c.loop-cpu.invariant
          ∙ filled_more n cpu words low (sym c.has.ensures ∙ w.if-has.true)
      | else-has w ↦
          w.set-is
          ∙ c.loop-cpu.invariant
          ∙ filled_same n cpu words (sym c.has.ensures ∙ w.if-has.false)
    ]

pub returns-clause-set : goal.returns-clause-set
returns-clause-set c =
    let n = length c.args.set.now in
    let sized : length c.clear.new.self ≡ n =
    ap length c.clear.ensures ∙ length-replicate {A = Bool} n false in
    let all : n ≤ c.loop-cpu.cpu =
    omega (arith, sized, c.loop-cpu-test.false, c.cpus-cpu-end.ensures.value) in
    c.loop-cpu.invariant ∙ filled_all n c.loop-cpu.cpu c.args.words.now all

pub returns-clause-sized : goal.returns-clause-sized
returns-clause-sized c = ap length c.loop-cpu.invariant ∙ length-listed (length c.args.set.now) _
