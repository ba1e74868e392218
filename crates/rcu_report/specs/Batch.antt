-- Reports of one tag, gathered as the set of their processors.
use Rattle.std.specs.Prelude.{ℕ, ◌==◌, Bool, not, List, [], ◌∷◌, length, Option, if◌then◌else◌}
use Rattle.rcu_seq.specs.Fault.{first_fault}
use Rattle.rcu_seq.specs.Tags.{same_tag}
use Rattle.rcu_seq.specs.declared.tag.Tag.{Tag}
use Rattle.rcu_seq.specs.declared.fault.Fault.{Fault}
use Rattle.rcu_seq.specs.declared.fault.Fault.TheVariants.{NotAlike}
use Rattle.rcu_node.specs.CpuSet.{is_in, unheard}
use Rattle.rcu_node.specs.Merging.{Standing}
use Rattle.rcu_node.specs.Reports.{awaited_after_report}

-- a batch, as contracts see it: the tag of its reports, and their processors
pub record Gathered : Type 0 where
  pub tag : Tag
  pub set : List Bool

-- why a report of this tag is not added: the batch has another tag
abbrev pub add_refusal : Gathered → Tag → Option Fault
add_refusal batch tag = first_fault ((not (same_tag tag batch.tag), NotAlike) ∷ [])

-- why another batch is not joined: it has another tag, or another number of processors
abbrev pub join_refusal : Gathered → Gathered → Option Fault
join_refusal batch other =
    first_fault ((not (same_tag other.tag batch.tag), NotAlike)
    ∷ (not (length other.set == length batch.set), NotAlike) ∷ [])

-- the processors of a set that are not in another one
abbrev pub difference : List Bool → List Bool → List Bool
difference set other = unheard set (is_in other)

-- the processors that are awaited after the reports of a batch, if the grace period of a tag awaits
-- this set: those without a report in the batch, if the batch has that tag; else the set
abbrev pub awaited_after_batch : Tag → List Bool → Gathered → List Bool
awaited_after_batch tag awaited batch =
    if same_tag batch.tag tag then difference awaited batch.set else awaited

-- a grace period after the reports of a batch
abbrev pub after_batch : Standing → Gathered → Standing
after_batch s batch = record s { awaited = awaited_after_batch s.tag s.awaited batch }

-- and after one report
abbrev pub after_report : Standing → ℕ → Tag → Standing
after_report s cpu tag = record s { awaited = awaited_after_report s.tag s.awaited cpu tag }
