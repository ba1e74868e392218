-- The read sections of one processor, as its accepted calls, the newest first, define them.
use Rattle.std.specs.Prelude.{ℕ, ◌-◌, ◌==◌, Bool, true, false, not, ◌&&◌, ◌||◌, List, [], ◌∷◌}
use Rattle.std.specs.Prelude.{count_by}
use Rattle.rcu_seq.specs.Histories.{is_on}
use Rattle.rcu_seq.specs.Tags.{first_tag}
use Rattle.rcu_seq.specs.declared.tag.Tag.{Tag}
use Rattle.rcu_cpu.specs.CpuData.{Call, Enter, Exit, Note, Arrive, Depart, Idle, Wake}

-- the call is an enter
abbrev pub enters : Call → Bool
enters Enter = true
enters _ = false

-- the call is an exit
abbrev pub exits : Call → Bool
exits Exit = true
exits _ = false

-- the call is an arrival
abbrev pub arrives : Call → Bool
arrives (Arrive _) = true
arrives _ = false

-- the call is a departure
abbrev pub departs : Call → Bool
departs Depart = true
departs _ = false

-- the processor goes idle
abbrev pub goes_idle : Call → Bool
goes_idle Idle = true
goes_idle _ = false

-- its idleness ends: it wakes, departs or arrives
abbrev pub ends_idleness : Call → Bool
ends_idleness Wake = true
ends_idleness Depart = true
ends_idleness (Arrive _) = true
ends_idleness _ = false

-- the depth of the sections: the number of enters less the number of exits
abbrev pub nesting : List Call → ℕ
nesting calls = count_by enters calls - count_by exits calls

-- the call opens a section: it is an enter at depth 0
abbrev pub opens : Call → List Call → Bool
opens call earlier = enters call && nesting earlier == 0

-- the call closes the section: it is an exit that brings the depth back to 0
abbrev pub closes : Call → List Call → Bool
closes call earlier = exits call && nesting (call ∷ earlier) == 0

-- a section is open: one was opened, and was not closed since
abbrev pub is_open : List Call → Bool
is_open [] = false
is_open (call ∷ earlier) = opens call earlier || (is_open earlier && not (closes call earlier))

-- the processor is online: its last arrival or departure is an arrival; before any such call, it is
-- as it was when it was made
abbrev pub is_online : Bool → List Call → Bool
is_online at_making calls = is_on at_making arrives departs calls

-- the processor is idle: it went idle, and its idleness did not end since
abbrev pub is_idle : List Call → Bool
is_idle calls = is_on false goes_idle ends_idleness calls

-- the tag of the last note or arrival, number 0 of epoch 0 before any
abbrev pub last_noted : List Call → Tag
last_noted [] = first_tag
last_noted (Note now ∷ earlier) = now
last_noted (Arrive now ∷ earlier) = now
last_noted (_ ∷ earlier) = last_noted earlier
