-- Meetings of a watcher with a processor's seat.
use Rattle.std.specs.Prelude.{◌≡◌, ◌&&◌, true, nat_le, if◌then◌else◌, Option, Some, None}
use Rattle.rcu_seq.specs.Numbers.{Number}
use Rattle.rcu_live.specs.Numbers.{is_open_at}
use Rattle.rcu_live.specs.declared.meeting.Met.{Met}

-- the answer of a meeting, by the number at which the open section began, the number that the
-- watcher saw and the number that the seat saw then: none if the watcher saw more than the seat, or
-- less than the number at which the section began
abbrev pub meet_answer : Option Number → Number → Number → Option Met
meet_answer None seen now =
    if nat_le seen now then Some record { opened = None; seen = seen } else None
meet_answer (Some at) seen now =
    if nat_le seen now && nat_le at seen
    then Some record { opened = Some at; seen = seen }
    else None

-- a meeting with a section that began at this number: it may be open at the number that the watcher
-- saw
abbrev pub MeetsSection : Met → Number → Type 0
MeetsSection met at = (met.opened ≡ Some at) × (is_open_at met.seen at ≡ true)
