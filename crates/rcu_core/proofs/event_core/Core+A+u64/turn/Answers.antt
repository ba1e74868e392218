use Rattle.std.proofs.Common.{ℕ, ◌∙◌, ap, refl, sym}
use Rattle.rcu_state.specs.GpState.{GraceWithRooms}
use Rattle.rcu_core.proofs.Sound.{sound_turned}
use Rattle.rcu_core.proofs.Steps.{along, does_turn}
use Rattle.rcu_core.proofs.event_core.Core+A+u64.turn.Goals as goal
use Rattle.rcu_core.proofs.event_core.Core+A+u64.turn.Goals.{in-Begun, in-Ended, in-Waiting}
use Rattle.rcu_core.proofs.event_core.Core+A+u64.turn.Goals.{in-Nothing}

pub invariant_of-self-2 : goal.invariant_of-self-2
invariant_of-self-2 g c = record {
  sound = sound_turned _ _ (ap (λ (s : GraceWithRooms ℕ). s.grace) c.in_ok-number.ensures.state)
      c.self.invariant.sound;
}

pub returns : goal.returns
returns g c =
    let done = c.in_ok-number.ensures in
    elim c.match-branch-2.branch [
      | in-Begun w ↦ rw w.result-is (along _ _ _ _ _ c.self.view_is
          (does_turn _ _ _ c.self.invariant.sound (sym done.fault)
          (sym w.in-Begun.is ∙ done.answer) (rw done.state refl)))
      | in-Ended w ↦ rw w.result-is (along _ _ _ _ _ c.self.view_is
          (does_turn _ _ _ c.self.invariant.sound (sym done.fault)
          (sym w.in-Ended.is ∙ done.answer) (rw done.state refl)))
      | in-Waiting w ↦ rw w.result-is (along _ _ _ _ _ c.self.view_is
          (does_turn _ _ _ c.self.invariant.sound (sym done.fault)
          (sym w.in-Waiting.is ∙ done.answer) (rw done.state refl)))
      | in-Nothing w ↦ rw w.result-is (along _ _ _ _ _ c.self.view_is
          (does_turn _ _ _ c.self.invariant.sound (sym done.fault)
          (sym w.in-Nothing.is ∙ done.answer) (rw done.state refl)))
    ]
