-- Definitions over histories: lists of events of any type, the newest first. So the history as it
-- was at an earlier event is the part of the list from that event on.
use Rattle.std.specs.Prelude.{Bool, true, false, not, ◌&&◌, ◌||◌, if◌then◌else◌, List, [], ◌∷◌}
use Rattle.std.specs.List.{list_any}

module _ {E : Type 0} where
  -- the history as it was at the latest event that passes a test, that event included; empty if
  -- there is none
  abbrev pub latest : (E → Bool) → List E → List E
  latest test [] = []
  latest test (e ∷ h) = if test e then e ∷ h else latest test h

  -- since the latest event that is a start, some event passes a test, which also sees what was
  -- before that event
  abbrev pub some_since : (E → Bool) → (E → List E → Bool) → List E → Bool
  some_since start test [] = false
  some_since start test (e ∷ h) = not (start e) && (test e h || some_since start test h)

  -- it is on: of the latest event that turns it on and the latest that turns it off, the first is
  -- the later one; before any such event it is as at first
  abbrev pub is_on : Bool → (E → Bool) → (E → Bool) → List E → Bool
  is_on at_first on off [] = at_first
  is_on at_first on off (e ∷ h) =
      if on e then true else (if off e then false else is_on at_first on off h)

  -- an end that comes after a begin lies in these events
  abbrev pub has_full : (E → Bool) → (E → Bool) → List E → Bool
  has_full begins ends [] = false
  has_full begins ends (e ∷ h) = (ends e && list_any begins h) || has_full begins ends h
