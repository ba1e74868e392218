use Rattle.std.proofs.Common.{ℕ, ap, refl, rules}
use Rattle.rcu_state.specs.GpState.{GraceWithRooms}
use Rattle.rcu_core.proofs.Sound.{sound_reported}
use Rattle.rcu_core.proofs.Steps.{along, does_hear}
use Rattle.rcu_core.proofs.event_core.Core+A+u64.deliver.Goals as goal

pub invariant_of-self : goal.invariant_of-self
invariant_of-self g c = record {
  sound = sound_reported _ _ c.in_ok-report.report
      (ap (λ (s : GraceWithRooms ℕ). s.grace) c.report.ensures.state) c.self.invariant.sound;
}

pub returns : goal.returns
returns g c =
    along _ _ _ _ _ c.self.view_is
    (does_hear _ _ c.args.place c.in_ok-report.report _ (search rules) c.report.ensures.answer
    (rw c.report.ensures.state refl))
