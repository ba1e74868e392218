-- The contents of a replica's handle, why a call does not take a handle as one, and their changes
-- by calls.
use Rattle.std.specs.Prelude.{ℕ, Bool, List, Option, Some, None, take, ⊤}
use Rattle.rcu_node.specs.CpuSet.{is_in}
use Rattle.rcu_node.specs.Words.{flags_in}
use Rattle.rcu_node.specs.declared.awaited.Answer.{Answer}
use Rattle.rcu_node.specs.declared.awaited.Answer.TheVariants.{Taken, Last, Repeat, Stale}
use Rattle.rcu_state.specs.GpState.{which}
use Rattle.rcu_report.specs.Replica.{Call, Replicated, at_first, after_call, cpus_of}
use Rattle.rcu_c.specs.Answers.{number_or}
use Rattle.rcu_c.specs.declared.contents.Contents.{Contents}
use Rattle.rcu_c.specs.declared.contents.Contents.TheVariants as contents
use Rattle.rcu_c.specs.declared.refusal.Refusal.{Refusal}
use Rattle.rcu_c.specs.declared.refusal.Refusal.TheVariants.{Closed, OtherKind}

-- the handle is an open replica's
abbrev pub HoldsReplica : Option Contents → Type 0
HoldsReplica None = ⊥
HoldsReplica (Some (contents.Engine _)) = ⊥
HoldsReplica (Some (contents.Seat _)) = ⊥
HoldsReplica (Some (contents.Replica _)) = ⊤
HoldsReplica (Some contents.Room) = ⊥

-- no replica: it has no processor
abbrev pub no_replica : Replicated
no_replica = at_first 0 0

-- the replica of a replica's handle, and no replica of another
abbrev pub replica_of : Option Contents → Replicated
replica_of None = no_replica
replica_of (Some (contents.Engine _)) = no_replica
replica_of (Some (contents.Seat _)) = no_replica
replica_of (Some (contents.Replica r)) = r
replica_of (Some contents.Room) = no_replica

-- why a handle is not taken as a replica's: it is closed; it is of another kind
abbrev pub replica_refusal : Option Contents → Option Refusal
replica_refusal None = Some Closed
replica_refusal (Some (contents.Engine _)) = Some OtherKind
replica_refusal (Some (contents.Seat _)) = Some OtherKind
replica_refusal (Some (contents.Replica _)) = None
replica_refusal (Some contents.Room) = Some OtherKind

-- the number that a call of a replica's handle returns: why the handle is not taken, or else this
abbrev pub replica_number : Option Contents → ℕ → ℕ
replica_number replica number = number_or (replica_refusal replica) number

-- a replica's handle after a call
abbrev pub after : Call → Option Contents → Option Contents
after call h = Some (contents.Replica (after_call (replica_of h) call))

-- the processors of a replica whose bits are set in words of 64
abbrev pub set_in : Option Contents → List ℕ → List Bool
set_in h words = flags_in (cpus_of (replica_of h)) words

-- the processors that a replica awaits, in order, the first of them up to a number
abbrev pub awaited_by : Replicated → ℕ → List ℕ
awaited_by r room = take room (which (cpus_of r) (is_in r.awaited))

-- the number of the answer to a report
abbrev pub answer_number : Answer → ℕ
answer_number Taken = 0
answer_number Last = 1
answer_number Repeat = 2
answer_number Stale = 3
