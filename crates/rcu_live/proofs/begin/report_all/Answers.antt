use Rattle.std.proofs.Common.{◌≡◌, ◌+◌, ◌<◌, Bool, List, length, ap, sym, ◌∙◌, arith}
use Rattle.rcu_node.specs.CpuSet.{is_in, unheard}
use Rattle.rcu_node.proofs.CpuSetLemmas.{length-unheard}
use Rattle.rcu_state.specs.GpState.{Grace, GraceWithRooms, with_awaited}
use Rattle.rcu_live.proofs.HeardBelow.{heard_below, none_below}
use Rattle.rcu_live.proofs.Reports.{all_reported, passed_by, reported_more}
use Rattle.rcu_live.proofs.begin.report_all.Goals as goal

pub loop-cpu-init : goal.loop-cpu-init
loop-cpu-init g c =
    let gp = c.args.gp.now.grace in (
      ap (λ (l : List Bool). with_awaited gp l)
          (sym (none_below gp.processors.awaited (is_in c.args.already_quiescent.now))),
      sym c.requires.already_quiescent,
    )

pub loop-cpu-preserved : goal.loop-cpu-preserved
loop-cpu-preserved g c =
    let gp = c.args.gp.now.grace in
    let already_quiescent = c.args.already_quiescent.now in
    let i = c.loop-cpu.invariant in
    let n = c.in-Some.cpu in
    let next = c.in-Some.ensures.first in
    let set = gp.processors.awaited in
    let inside : n < length set = omega (arith, c.requires.already_quiescent, next.inside) in
    let state : c.report_current.new.self.grace
    ≡ with_awaited gp (unheard set (heard_below (n + 1) (is_in already_quiescent))) =
    reported_more gp c.loop-cpu.gp.grace c.report_current.new.self.grace already_quiescent n inside
    next.here
    (passed_by gp c.loop-cpu.gp.grace already_quiescent c.loop-cpu.from n next.later next.none i.0)
    (ap (λ (s : GraceWithRooms g.row.T.Denot). s.grace) c.report_current.ensures.state) in (
      state,
      ap (λ (y : Grace g.row.T.Denot). length y.processors.awaited) state
          ∙ length-unheard set (heard_below (n + 1) (is_in already_quiescent))
          ∙ sym c.requires.already_quiescent,
    )

pub returns : goal.returns
returns g c =
    all_reported c.args.gp.now.grace c.loop-cpu.gp.grace c.args.already_quiescent.now
    c.loop-cpu.from (c.next_from.ensures.none c.in_default.is) c.loop-cpu.invariant.0
