-- The meaning of a history. A history is the list of the accepted events, the newest first. So the
-- history as it was at an earlier event is the part of the list from that event on. A turn that
-- began or ended a grace period is recorded as that begin or end.
use Rattle.std.specs.Prelude.{ℕ, ◌+◌, ◌-◌, ◌==◌, Bool, true, false, not, ◌&&◌, nat_lt}
use Rattle.std.specs.Prelude.{if◌then◌else◌, List, [], ◌∷◌, ◌++◌, count_by, slice_get, Option, Some}
use Rattle.std.specs.Prelude.{None}
use Rattle.rcu_seq.specs.Histories.{is_on, latest, some_since}
use Rattle.rcu_seq.specs.Numbers.{Number, number_at}
use Rattle.rcu_seq.specs.Tags.{first_tag, is_before, same_tag}
use Rattle.rcu_seq.specs.declared.tag.Tag.{Tag}
use Rattle.rcu_core.specs.declared.event.Event.{Event}
use Rattle.rcu_core.specs.declared.event.Event.TheVariants.{Enter, Exit, Note, Quiesce, Deliver}
use Rattle.rcu_core.specs.declared.event.Event.TheVariants.{Online, Offline, Begin, End, Renumber}
use Rattle.rcu_core.specs.declared.event.Event.TheVariants.{Idle, Wake, Scan}
use Rattle.rcu_report.specs.declared.batch.Report.{Report}

abbrev pub History : Type 0
History = List Event

-- a grace period begins
abbrev pub begins : Event → Bool
begins Begin = true
begins _ = false

-- a grace period ends
abbrev pub ends : Event → Bool
ends End = true
ends _ = false

-- the counter is renumbered
abbrev pub renumbers : Event → Bool
renumbers Renumber = true
renumbers _ = false

-- the processor arrives
abbrev pub arrives : ℕ → Event → Bool
arrives cpu (Online c) = c == cpu
arrives cpu _ = false

-- the processor departs
abbrev pub departs : ℕ → Event → Bool
departs cpu (Offline c) = c == cpu
departs cpu _ = false

-- the processor enters
abbrev pub enters : ℕ → Event → Bool
enters cpu (Enter c) = c == cpu
enters cpu _ = false

-- the processor exits
abbrev pub exits : ℕ → Event → Bool
exits cpu (Exit c) = c == cpu
exits cpu _ = false

-- the processor goes idle
abbrev pub goes_idle : ℕ → Event → Bool
goes_idle cpu (Idle c) = c == cpu
goes_idle cpu _ = false

-- its idleness ends: it wakes, departs or arrives
abbrev pub ends_idleness : ℕ → Event → Bool
ends_idleness cpu (Wake c) = c == cpu
ends_idleness cpu (Offline c) = c == cpu
ends_idleness cpu (Online c) = c == cpu
ends_idleness cpu _ = false

-- the processor notes the tag of now: at a note, and at its arrival
abbrev pub notes : ℕ → Event → Bool
notes cpu (Note c) = c == cpu
notes cpu (Online c) = c == cpu
notes cpu _ = false

-- a grace period runs: more began than ended
abbrev pub running : History → Bool
running h = nat_lt (count_by ends h) (count_by begins h)

-- the epoch: the count of renumberings
abbrev pub epoch : History → ℕ
epoch h = count_by renumbers h

-- how many grace periods ended in the epoch, that is, since the last renumbering
abbrev pub ends_in_epoch : History → ℕ
ends_in_epoch [] = 0
ends_in_epoch (End ∷ h) = ends_in_epoch h + 1
ends_in_epoch (Renumber ∷ h) = 0
ends_in_epoch (_ ∷ h) = ends_in_epoch h

-- the grace-period number: four for each end in the epoch, and one more while a grace period runs
abbrev pub number : History → Number
number h = number_at (ends_in_epoch h) (running h)

-- the number in its epoch
abbrev pub tag_now : History → Tag
tag_now h = record { epoch = epoch h; number = number h }

-- the processor is online: its last arrival or departure is an arrival; before any such event, only
-- processor 0 is online
abbrev pub online : ℕ → History → Bool
online cpu h = is_on (cpu == 0) (arrives cpu) (departs cpu) h

-- the processor is idle: it went idle, and its idleness did not end since
abbrev pub is_idle : ℕ → History → Bool
is_idle cpu h = is_on false (goes_idle cpu) (ends_idleness cpu) h

-- the noted tag: that at the processor's last note or arrival, number 0 of epoch 0 before any
abbrev pub noted : ℕ → History → Tag
noted cpu [] = first_tag
noted cpu (e ∷ h) = if notes cpu e then tag_now (e ∷ h) else noted cpu h

-- how often the processor entered
abbrev pub enter_count : ℕ → History → ℕ
enter_count cpu h = count_by (enters cpu) h

-- how often the processor exited
abbrev pub exit_count : ℕ → History → ℕ
exit_count cpu h = count_by (exits cpu) h

-- the depth of its read sections: the number of enters less the number of exits
abbrev pub depth : ℕ → History → ℕ
depth cpu h = enter_count cpu h - exit_count cpu h

-- the history as it was when its latest section was opened, by an enter at depth 0, that enter
-- included
abbrev pub opening : ℕ → History → History
opening cpu [] = []
opening cpu (e ∷ h) = if enters cpu e && depth cpu h == 0 then e ∷ h else opening cpu h

-- its open section, named by the history when it was opened: from an enter at depth 0 to the exit
-- that brings the depth back to 0, or up to now
abbrev pub section : ℕ → History → Option History
section cpu h = if nat_lt 0 (depth cpu h) then Some (opening cpu h) else None

-- a section of it is open that began before the running grace period
abbrev pub is_old : ℕ → History → Bool
is_old cpu h =
    running h && (nat_lt 0 (depth cpu h) && is_before (tag_now (opening cpu h)) (tag_now h))

-- all reports, the first one first: each quiescent state made one, of its processor and the noted
-- tag
abbrev pub reports_made : History → List Report
reports_made [] = []
reports_made (Quiesce cpu ∷ h) = reports_made h ++ record { cpu = cpu; tag = noted cpu h } ∷ []
reports_made (_ ∷ h) = reports_made h

-- the report of a place, counted from 1
abbrev pub report_at : ℕ → List Report → Option Report
report_at place reports = if place == 0 then None else slice_get reports (place - 1)

-- it is a report of this processor and this tag
abbrev pub is_of : ℕ → Tag → Option Report → Bool
is_of cpu tag None = false
is_of cpu tag (Some report) = report.cpu == cpu && same_tag report.tag tag

-- this event makes the processor heard in the grace period of this tag: a report of both is
-- delivered, it departs, or a scan finds it idle
abbrev pub hears : ℕ → Tag → Event → History → Bool
hears cpu tag (Deliver place) h = is_of cpu tag (report_at place (reports_made h))
hears cpu tag (Offline c) h = c == cpu
hears cpu tag (Scan c) h = c == cpu
hears cpu tag _ h = false

-- the processor was heard since the latest begin
abbrev pub is_heard : ℕ → Tag → History → Bool
is_heard cpu tag h = some_since begins (hears cpu tag) h

-- the processor is awaited: it was online at the begin of the running grace period, and it was not
-- heard since
abbrev pub awaits : ℕ → History → Bool
awaits cpu h = running h && (online cpu (latest begins h) && not (is_heard cpu (tag_now h) h))
