-- Events that are refused only if memory is.
use Rattle.std.proofs.Common.{◌≡◌, ◌≢◌}
use Rattle.std.proofs.Common.{List, [], ◌∷◌, ◌++◌, None, sym}
use Rattle.std.proofs.Common.{ap, ◌∙◌, subst, inl, inr}
use Rattle.rcu_seq.specs.declared.fault.Fault.{Fault}
use Rattle.rcu_seq.specs.declared.fault.Fault.TheVariants as fault
use Rattle.rcu_core.specs.History.{History}
use Rattle.rcu_core.specs.Progress.{LeadsWithMemory, SurelyLeads}
use Rattle.rcu_core.specs.Replies.{Size, accepted_reply, fault_in, or_fault}
use Rattle.rcu_core.specs.Replies.{IsLegalReply, with_event}
use Rattle.rcu_core.specs.Situation.{situation}
use Rattle.rcu_core.specs.declared.event.Event.{Event}
use Rattle.rcu_core.specs.declared.reply.Reply.{Reply}
use Rattle.rcu_core.specs.declared.reply.Reply.TheVariants as reply

-- an event that is refused only if memory is
pub record Accepts (s : Size) (h : History) (e : Event) : Type 0 where
  pub accepted : fault_in s (situation h) e ≡ None
  pub stands : with_event h e (accepted_reply s (situation h) e) ≡ e ∷ h
  pub no_fault : (f : Fault) → accepted_reply s (situation h) e ≢ reply.Fault f

said_with_memory : (s : Size) (h : History) (e : Event) (r : Reply) → Accepts s h e
    → IsLegalReply s (situation h) e r → r ≢ reply.Fault fault.NoMemory
    → r ≡ accepted_reply s (situation h) e
said_with_memory s h e r u (inl i) n =
    i ∙ ap (λ o. or_fault o (accepted_reply s (situation h) e)) u.accepted
said_with_memory s h e r u (inr i) n = absurd (n i.2)

pub memory_on : (s : Size) (h : History) (e : Event) (events : List Event) (g : History)
    → Accepts s h e → LeadsWithMemory s (e ∷ h) events g → LeadsWithMemory s h (e ∷ events) g
memory_on s h e events g u t = λ r l n.
    let i = said_with_memory s h e r u l n in (
      λ f j. u.no_fault f (sym i ∙ j),
      subst (λ x. LeadsWithMemory s x events g)
          (sym (ap (λ r. with_event h e r) i ∙ u.stands)) t,
    )

pub with_memory : (s : Size) (h g : History) (events : List Event) → SurelyLeads s h events g
    → LeadsWithMemory s h events g
with_memory s h g [] t = t
with_memory s h g (e ∷ events) t = λ r l n.
    (let at = t r l in (at.0, with_memory s (with_event h e r) g events at.1))

pub both_with_memory : (s : Size) (h g k : History) (xs ys : List Event) → LeadsWithMemory s h xs g
    → LeadsWithMemory s g ys k → LeadsWithMemory s h (xs ++ ys) k
both_with_memory s h g k [] ys t u = subst (λ x. LeadsWithMemory s x ys k) t u
both_with_memory s h g k (e ∷ xs) ys t u = λ r l n.
    (let at = t r l n in (at.0, both_with_memory s (with_event h e r) g k xs ys at.1 u))
