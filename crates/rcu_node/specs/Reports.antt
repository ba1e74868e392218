-- The effect of reports on the processors that a grace period awaits.
use Rattle.std.specs.Prelude.{ℕ, ◌==◌, ◌&&◌, ◌||◌, Bool, false, not, List, [], ◌∷◌, if◌then◌else◌}
use Rattle.std.specs.Prelude.{slice_set}
use Rattle.rcu_seq.specs.Tags.{same_tag}
use Rattle.rcu_seq.specs.declared.tag.Tag.{Tag}
use Rattle.rcu_node.specs.CpuSet.{is_in, size_of}
use Rattle.rcu_node.specs.declared.awaited.Answer.{Answer}
use Rattle.rcu_node.specs.declared.awaited.Answer.TheVariants.{Taken, Last, Repeat, Stale}

-- the answer to a report of a processor and the tag that it noted, if the grace period of a tag
-- awaits this set
abbrev pub report_answer : Tag → List Bool → ℕ → Tag → Answer
report_answer tag awaited cpu noted =
    if not (same_tag noted tag) then Stale
    else (if not (is_in awaited cpu) then Repeat
    else (if size_of awaited == 1 then Last else Taken))

-- the processors that are awaited after that report: the same set without the processor, if it
-- noted the grace period's tag
abbrev pub awaited_after_report : Tag → List Bool → ℕ → Tag → List Bool
awaited_after_report tag awaited cpu noted =
    if same_tag noted tag then slice_set awaited cpu false else awaited

-- the processors that are awaited after reports, the newest first, each of a processor and a tag
abbrev pub awaited_after_reports : Tag → List Bool → List (ℕ × Tag) → List Bool
awaited_after_reports tag set [] = set
awaited_after_reports tag set (report ∷ earlier) =
    awaited_after_report tag (awaited_after_reports tag set earlier) report.0 report.1

-- one of the reports is of this processor and this tag
abbrev pub was_reported : Tag → ℕ → List (ℕ × Tag) → Bool
was_reported tag cpu [] = false
was_reported tag cpu (report ∷ earlier) =
    (report.0 == cpu && same_tag report.1 tag) || was_reported tag cpu earlier
