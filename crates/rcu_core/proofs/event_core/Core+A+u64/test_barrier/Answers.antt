use Rattle.std.proofs.Common.{◌∙◌, refl, sym}
use Rattle.rcu_core.proofs.Steps.{along, does_test}
use Rattle.rcu_core.proofs.event_core.Core+A+u64.test_barrier.Goals as goal
use Rattle.rcu_core.proofs.event_core.Core+A+u64.test_barrier.Goals.{in-Done, in-Waits}

pub returns : goal.returns
returns g c =
    let done = c.in_ok-barrier_test.ensures in
    elim c.match-branch-2.branch [
      | in-Done w ↦ rw w.result-is
          (along _ _ _ _ _ c.self.view_is
          (does_test _ _ _ c.self.invariant.sound (sym done.fault) (sym w.in-Done.is ∙ done.answer)
          (rw done.state refl)))
      | in-Waits w ↦ rw w.result-is
          (along _ _ _ _ _ c.self.view_is
          (does_test _ _ _ c.self.invariant.sound (sym done.fault) (sym w.in-Waits.is ∙ done.answer)
          (rw done.state refl)))
    ]
