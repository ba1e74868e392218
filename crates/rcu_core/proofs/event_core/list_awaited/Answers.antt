use Rattle.std.proofs.Common.{rules, ◌<◌, ap, arith, ◌∙◌, length, sym}
use Rattle.rcu_core.proofs.Counting.{has_room, which_no, which_yes}
use Rattle.rcu_core.proofs.event_core.list_awaited.Goals as goal
use Rattle.rcu_core.proofs.event_core.list_awaited.Goals.{else-awaits, then-awaits}

pub push_reserved-requires : goal.push_reserved-requires
push_reserved-requires g c =
    let within : c.loop-cpu.cpu < length (g.A.Awaited.awaited c.args.awaited.now) = search rules in
    let kept = c.loop-cpu.invariant in
    let room = has_room _ c.loop-cpu.cpu _ _ within (sym c.awaits.ensures ∙ c.if-awaits.true)
    kept.so_far kept.room in
    omega (arith, room, kept.count)

pub loop-cpu-preserved : goal.loop-cpu-preserved
loop-cpu-preserved g c = elim c.if-awaits.branch [
  | then-awaits w ↦ record {
    so_far = which_yes _ c.loop-cpu.cpu _ _ (sym c.awaits.ensures ∙ w.if-awaits.true)
        c.loop-cpu.invariant.so_far (ap (λ v. v.items) w.list-is ∙ w.push_reserved.ensures.items);
    count = search rules;
    room = search rules;
  }
  | else-awaits w ↦ record {
    so_far = which_no _ c.loop-cpu.cpu _ _ (sym c.awaits.ensures ∙ w.if-awaits.false)
        c.loop-cpu.invariant.so_far (ap (λ v. v.items) w.list-is);
    count = search rules;
    room = search rules;
  }
]
