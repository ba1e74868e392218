use Rattle.std.proofs.Common.{ℕ, subst}
use Rattle.rcu_core.specs.Core.{State, IsSound}
use Rattle.rcu_core.proofs.Follows.{goes, refused_stays}
use Rattle.rcu_core.proofs.event_core.Core+A+u64.step.Goals as goal

pub returns-in-Ok-clause-follows : goal.returns-in-Ok-clause-follows
returns-in-Ok-clause-follows g c = λ h has.
    goes _ _ h _ _ (subst (λ (v : State ℕ). IsSound v) c.self.view_is c.self.invariant.sound) has
    c.in-Ok.ensures

pub returns-in-Ok-clause-unchanged : goal.returns-in-Ok-clause-unchanged
returns-in-Ok-clause-unchanged g c = λ fault p. refused_stays _ _ _ _ fault c.in-Ok.ensures p

pub returns-in-Err-clause-follows : goal.returns-in-Err-clause-follows
returns-in-Err-clause-follows g c = λ h has.
    goes _ _ h _ _ (subst (λ (v : State ℕ). IsSound v) c.self.view_is c.self.invariant.sound) has
    c.in-Err.ensures

pub returns-in-Err-clause-unchanged : goal.returns-in-Err-clause-unchanged
returns-in-Err-clause-unchanged g c = λ fault p. refused_stays _ _ _ _ fault c.in-Err.ensures p
