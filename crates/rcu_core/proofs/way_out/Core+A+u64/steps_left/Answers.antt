use Rattle.std.proofs.Common.{◌≡◌, ◌∙◌, ◌+◌, ap, arith, sym}
use Rattle.rcu_hotplug.specs.Hotplug.{cpus_of}
use Rattle.rcu_node.specs.CpuSet.{is_in}
use Rattle.rcu_core.specs.Core.{says}
use Rattle.rcu_core.specs.WayOut.{retiring_steps_of}
use Rattle.rcu_core.proofs.WayOut.{awaited_is, counted_more, counted_same, steps_of_history}
use Rattle.rcu_core.proofs.way_out.Core+A+u64.steps_left.Goals as goal
use Rattle.rcu_core.proofs.way_out.Core+A+u64.steps_left.Goals.{then-awaits, else-awaits}

pub loop-cpu-preserved : goal.loop-cpu-preserved
loop-cpu-preserved g c =
    let v = c.args.self.now in
    let at = awaited_is _ v _ _ _ c.loop-cpu.cpu c.awaits.result c.self.view_is
    c.awaited.ensures.standing c.awaits.ensures in
    elim c.if-awaits.branch [
      | then-awaits w ↦ record {
        few = omega (arith, w.left-is, w.steps_of-left.ensures.few, c.loop-cpu.invariant.few);
        so_far = counted_more (is_in v.grace.processors.awaited) (retiring_steps_of (says v))
            c.loop-cpu.cpu c.loop-cpu.left _ (at ∙ w.if-awaits.true) c.loop-cpu.invariant.so_far
            (w.left-is ∙ ap (λ k. c.loop-cpu.left + k) w.steps_of-left.ensures.value);
      }
      | else-awaits w ↦ record {
        few = omega (arith, w.left-is, c.loop-cpu.invariant.few);
        so_far = counted_same (is_in v.grace.processors.awaited) (retiring_steps_of (says v))
            c.loop-cpu.cpu c.loop-cpu.left _ (at ∙ w.if-awaits.false) c.loop-cpu.invariant.so_far
            w.left-is;
      }
    ]

pub returns : goal.returns
returns g c = λ h x.
    let all : c.loop-cpu.cpu ≡ cpus_of c.self.inside.gp.grace.processors =
    omega (arith, c.cpus-cpu-end.ensures.value, c.loop-cpu-test.false, c.loop-cpu.auto.cpu-end) in
    steps_of_history _ c.args.self.now h c.loop-cpu.left c.self.view_is x
    (sym c.is_running.ensures ∙ c.if-not-is_running.false)
    (rw (← all) c.loop-cpu.invariant.so_far)
