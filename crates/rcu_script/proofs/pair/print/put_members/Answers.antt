use Rattle.std.proofs.Common.{◌≡◌, ◌∙◌, sym, length, arith}
use Rattle.std.proofs.lemmas.Result.{err_from_is_err_and}
use Rattle.rcu_node.specs.CpuSet.{is_in}
use Rattle.rcu_script.proofs.PairLemmas.{member_none, member_sent, member_stops, members_all}
use Rattle.rcu_script.proofs.pair.print.put_members.Goals as goal
use Rattle.rcu_script.proofs.pair.print.put_members.Goals.{then-awaits+in_ok-put_spaced}
use Rattle.rcu_script.proofs.pair.print.put_members.Goals.{else-awaits}

pub returns-in_err-put_spaced : goal.returns-in_err-put_spaced
returns-in_err-put_spaced g c =
    let p = err_from_is_err_and c.from_residual.result c.from_residual.ensures.1 in
    let set = g.A.Awaited.awaited c.args.awaited.now in
    rw (p.1)
    (member_stops (is_in set) c.loop-cpu.cpu (length set) _ _ _
    (omega (arith, c.loop-cpu-test.true, c.cpus-cpu-end.ensures))
    (sym c.awaits.ensures ∙ c.if-awaits.true) c.loop-cpu.invariant
    (rw c.from.ensures at c.in_err-put_spaced.ensures))

pub loop-cpu-preserved : goal.loop-cpu-preserved
loop-cpu-preserved g c =
    let set = g.A.Awaited.awaited c.args.awaited.now in
    elim c.if-awaits.branch [
      | then-awaits+in_ok-put_spaced w ↦ rw (w.out-is)
          (member_sent (is_in set) c.loop-cpu.cpu _ _ _ (sym c.awaits.ensures ∙ w.if-awaits.true)
          c.loop-cpu.invariant (rw w.from.ensures at w.in_ok-put_spaced.ensures))
      | else-awaits w ↦ rw (w.out-is)
          (member_none (is_in set) c.loop-cpu.cpu _ _ (sym c.awaits.ensures ∙ w.if-awaits.false)
          c.loop-cpu.invariant)
    ]

pub returns : goal.returns
returns g c =
    let set = g.A.Awaited.awaited c.args.awaited.now in
    let all : c.loop-cpu.cpu ≡ length set = omega
    (arith, c.loop-cpu-test.false, c.loop-cpu.auto.cpu-end, c.cpus-cpu-end.ensures) in
    members_all (is_in set) c.loop-cpu.cpu (length set) _ _ all c.loop-cpu.invariant
