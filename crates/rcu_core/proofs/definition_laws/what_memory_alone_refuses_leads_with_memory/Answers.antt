use Rattle.std.proofs.Common.{inl, refl}
use Rattle.rcu_seq.specs.declared.fault.Fault.TheVariants as fault
use Rattle.rcu_core.specs.declared.reply.Reply.TheVariants as reply
use Rattle.rcu_core.proofs.definition_laws.what_memory_alone_refuses_leads_with_memory.Goals as goal

pub returns-clause-awaited : goal.returns-clause-awaited
returns-clause-awaited c =
    λ last most reached leads.
    (leads (reply.Fault fault.Waiting) (inl refl) (λ i. absurd (cc))).0 fault.Waiting refl
