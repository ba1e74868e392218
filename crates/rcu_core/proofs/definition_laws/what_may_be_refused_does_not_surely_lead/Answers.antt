use Rattle.std.proofs.Common.{inl, inr, refl}
use Rattle.rcu_seq.specs.declared.fault.Fault.TheVariants as fault
use Rattle.rcu_core.specs.declared.reply.Reply.TheVariants as reply
use Rattle.rcu_core.proofs.definition_laws.what_may_be_refused_does_not_surely_lead.Goals as goal

pub returns-clause-awaited : goal.returns-clause-awaited
returns-clause-awaited c =
    λ last most reached leads. (leads (reply.Fault fault.Waiting) (inl refl)).0 fault.Waiting refl

pub returns-clause-memory : goal.returns-clause-memory
returns-clause-memory c =
    λ last most reached leads.
    (leads (reply.Fault fault.NoMemory) (inr (refl, refl, refl))).0 fault.NoMemory refl
