-- The state of a replica, as a history defines it. A history is the list of the accepted calls, the
-- newest first.
use Rattle.std.specs.Prelude.{ℕ, ◌≡◌, ◌==◌, Bool, true, false, not, ◌&&◌, List, [], ◌∷◌, None}
use Rattle.std.specs.Prelude.{count_by}
use Rattle.rcu_seq.specs.Histories.{is_on, some_since}
use Rattle.rcu_seq.specs.Numbers.{Number, number_at, same_number}
use Rattle.rcu_node.specs.CpuSet.{is_in}
use Rattle.rcu_report.specs.Replica.{Replicated, Call, Begin, Report, Depart, End, Merge, CanBeMade}
use Rattle.rcu_report.specs.Replica.{at_first, refusal}
use Rattle.rcu_report.specs.Replica.{after_call}

abbrev pub History : Type 0
History = List Call

-- the replica after a history, for this number of processors and this last number
abbrev pub after_calls : ℕ → Number → History → Replicated
after_calls cpus last [] = at_first cpus last
after_calls cpus last (call ∷ h) = after_call (after_calls cpus last h) call

-- each call could be made, and was accepted, at its time
abbrev pub AreAccepted : ℕ → Number → History → Type 0
AreAccepted cpus last [] = Unit {0}
AreAccepted cpus last (call ∷ h) =
    CanBeMade (after_calls cpus last h) call × (refusal (after_calls cpus last h) call ≡ None)
    × AreAccepted cpus last h

-- a grace period begins
abbrev pub begins : Call → Bool
begins (Begin set) = true
begins _ = false

-- a grace period ends
abbrev pub ends : Call → Bool
ends End = true
ends _ = false

-- a grace period runs: one began, and none ended since
abbrev pub running : History → Bool
running h = is_on false begins ends h

-- the number of the latest begin, 0 before any: four for each grace period that had ended, and one
-- more
abbrev pub tag : History → Number
tag [] = 0
tag (Begin set ∷ h) = number_at (count_by ends h) true
tag (_ ∷ h) = tag h

-- the latest grace period awaited the processor at its start: it was in the set of the latest begin
abbrev pub starts : ℕ → History → Bool
starts cpu [] = false
starts cpu (Begin set ∷ h) = is_in set cpu
starts cpu (_ ∷ h) = starts cpu h

-- this call makes the processor heard in the grace period of this number: it reports the number, or
-- it departs, or another replica is merged that heard it in that grace period, which means that it
-- started with the processor and no longer awaits it
abbrev pub hears : ℕ → Number → Call → Bool
hears cpu number (Report c n) = c == cpu && same_number n number
hears cpu number (Depart c) = c == cpu
hears cpu number (Merge other) =
    same_number other.tag number && (is_in other.start_set cpu && not (is_in other.awaited cpu))
hears cpu number _ = false

-- since the latest begin the processor was heard in the grace period of this number
abbrev pub is_heard : ℕ → Number → History → Bool
is_heard cpu number h = some_since begins (λ call earlier. hears cpu number call) h

-- the processor is awaited: the latest grace period started with it, and it was not heard in it
-- since
abbrev pub awaits : ℕ → History → Bool
awaits cpu h = starts cpu h && not (is_heard cpu (tag h) h)

-- the replica is as the history defines it
pub record Represents (r : Replicated) (h : History) : Type 0 where
  pub ends : r.periods.ends ≡ count_by ends h
  pub running : r.periods.running ≡ running h
  pub tag : r.tag ≡ tag h
  pub start_set : (cpu : ℕ) → is_in r.start_set cpu ≡ starts cpu h
  pub awaited : (cpu : ℕ) → is_in r.awaited cpu ≡ awaits cpu h
