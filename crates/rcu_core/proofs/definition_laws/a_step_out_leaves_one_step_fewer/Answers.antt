use Rattle.std.proofs.Common.{[], ◌∷◌, arith, inl, refl}
use Rattle.rcu_seq.specs.declared.fault.Fault.TheVariants as fault
use Rattle.rcu_core.specs.declared.event.Event.TheVariants.{Begin, Idle}
use Rattle.rcu_core.specs.declared.reply.Reply.TheVariants as reply
use Rattle.rcu_core.proofs.WayOut.{step_out}
use Rattle.rcu_core.proofs.definition_laws.a_step_out_leaves_one_step_fewer.Goals as goal

pub returns-clause-idle : goal.returns-clause-idle
returns-clause-idle c = λ most.
    step_out (record { cpus = 1; last = 4; most = most }) (Begin ∷ []) (Idle 0) (refl, tt) refl

pub returns-clause-note : goal.returns-clause-note
returns-clause-note c = λ last most u. let kind = u.retires in absurd (cc)

pub returns-clause-late : goal.returns-clause-late
returns-clause-late c = λ last most u. let same = u.fewer in absurd (omega (arith, same))

pub returns-clause-refused : goal.returns-clause-refused
returns-clause-refused c =
    λ last most u. (u.leads (reply.Fault fault.NotIdle) (inl refl)).0 fault.NotIdle refl
