use Rattle.std.proofs.Common.{ℕ, ◌∙◌, ap, refl, sym}
use Rattle.rcu_seq.specs.Seq.{number_of}
use Rattle.rcu_state.specs.GpState.{GraceWithRooms, awaited_in}
use Rattle.rcu_core.proofs.Steps.{along, does_begin}
use Rattle.rcu_core.proofs.event_core.Core+A+u64.begin.Goals as goal

pub returns : goal.returns
returns g c =
    let done = c.in_ok-number.ensures in
    along _ _ _ _ _ c.self.view_is
    (does_begin _ _ _ _ c.self.invariant.sound (sym done.fault)
    (done.number ∙ ap (λ (s : GraceWithRooms ℕ). number_of s.grace.seq) done.state)
    (done.awaited ∙ ap (λ (s : GraceWithRooms ℕ). awaited_in s.grace) done.state)
    (rw done.state refl))
