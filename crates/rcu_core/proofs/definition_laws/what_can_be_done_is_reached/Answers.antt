use Rattle.std.proofs.Common.{◌≡◌, ◌≢◌, [], ◌∷◌, inl, inr, refl, sym, subst, arith}
use Rattle.rcu_seq.specs.declared.fault.Fault.{Fault}
use Rattle.rcu_core.specs.Replies.{with_event}
use Rattle.rcu_core.specs.declared.event.Event.TheVariants.{BarBegin, BarTest, Visit}
use Rattle.rcu_core.specs.declared.reply.Reply.{Reply}
use Rattle.rcu_core.specs.declared.reply.Reply.TheVariants as reply
use Rattle.rcu_core.proofs.definition_laws.what_can_be_done_is_reached.Goals as goal

pub returns-clause-cookie : goal.returns-clause-cookie
returns-clause-cookie c = λ size h can. (can.reached, (can.done, can.ends))

pub returns-clause-callbacks : goal.returns-clause-callbacks
returns-clause-callbacks c = λ size h can. (can.reached, (can.out, can.ends))

pub returns-clause-barrier : goal.returns-clause-barrier
returns-clause-barrier c = λ size h can. (can.reached, (can.done, can.ends))

pub returns-clause-tested : goal.returns-clause-tested
returns-clause-tested c = λ last most. record {
  events = BarTest ∷ [];
  reached = BarTest ∷ Visit 0 ∷ BarBegin ∷ [];
  leads = λ r legal with_memory. elim legal [
    | inl i ↦
        subst
        (λ (given : Reply).
        ((refused : Fault) → given ≢ reply.Fault refused)
        × (BarTest ∷ Visit 0 ∷ BarBegin ∷ [] ≡ with_event (Visit 0 ∷ BarBegin ∷ []) BarTest given))
        (sym i) ((λ refused e. absurd (cc)), refl)
    | inr i ↦ absurd (let none = i.0 in cc)
  ];
  done = refl;
  ends = omega arith;
}
