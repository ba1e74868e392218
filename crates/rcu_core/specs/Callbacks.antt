-- Callbacks, as the accepted events so far define them: each processor's list, the barrier, and the
-- callbacks that were handed out.
use Rattle.std.specs.Prelude.{ℕ, ◌+◌, nat_lt, ◌==◌, Bool, true, false, not, ◌&&◌, max}
use Rattle.std.specs.Prelude.{if◌then◌else◌, List, [], ◌∷◌, ◌++◌, count_by}
use Rattle.rcu_seq.specs.Histories.{has_full, is_on, latest, some_since}
use Rattle.rcu_seq.specs.Numbers.{Number, snapshot}
use Rattle.rcu_cblist.specs.declared.items.Queued.{Queued}
use Rattle.rcu_cblist.specs.SegList.{Item, Of, Unmarked, after_migrate, after_renumber, numbers}
use Rattle.rcu_cblist.specs.SegList.{take_answer, after_take, as_it_leaves}
use Rattle.rcu_barrier.specs.Runs.{copies}
use Rattle.rcu_barrier.specs.Tending.{after_tend}
use Rattle.rcu_state.specs.Periods.{greatest_from}
use Rattle.rcu_core.specs.History.{History, begins, ends, number, tag_now}
use Rattle.rcu_core.specs.declared.event.Event.{Event}
use Rattle.rcu_core.specs.declared.event.Event.TheVariants.{Offline, StartPoll, Queue, Tend, Run}
use Rattle.rcu_core.specs.declared.event.Event.TheVariants.{BarBegin, Visit, BarTest, Renumber}

-- a callback is queued
abbrev pub queues : Event → Bool
queues (Queue cpu value) = true
queues _ = false

-- a barrier begins
abbrev pub begins_barrier : Event → Bool
begins_barrier BarBegin = true
begins_barrier _ = false

-- a barrier ends: a history has a test only if it found the barrier done
abbrev pub ends_barrier : Event → Bool
ends_barrier BarTest = true
ends_barrier _ = false

-- the barrier visits the processor: by a visit, or as the processor departs
abbrev pub visits : ℕ → Event → Bool
visits cpu (Visit c) = c == cpu
visits cpu (Offline c) = c == cpu
visits cpu _ = false

-- a barrier runs: of its latest begin and end, the begin is the later one
abbrev pub barrier_runs : History → Bool
barrier_runs h = is_on false begins_barrier ends_barrier h

-- the processor was visited since the latest barrier began
abbrev pub was_visited : ℕ → History → Bool
was_visited cpu h = some_since begins_barrier (λ e _. visits cpu e) h

-- a barrier runs that did not visit the processor yet
abbrev pub is_owed : ℕ → History → Bool
is_owed cpu h = barrier_runs h && not (was_visited cpu h)

-- how many callbacks were queued
abbrev pub queue_count : History → ℕ
queue_count h = count_by queues h

-- the processor's list, in order. A queued callback goes to its end. A tend at the number gives
-- marks. A run removes the first callbacks of the done part. A visit puts a marker behind it. The
-- list of a departing processor moves to processor 0: its done part in front of that list, the rest
-- behind it without marks. At a renumbering each list loses its numbers
abbrev pub list : ℕ → History → List (Item ℕ)
list cpu [] = []
list cpu (Queue c value ∷ h) =
    if c == cpu
    then list cpu h
    ++ Of (record { ord = queue_count h + 1; at = tag_now h; value = value }) Unmarked ∷ []
    else list cpu h
list cpu (Tend c ∷ h) = if c == cpu then after_tend (list cpu h) (number h) else list cpu h
list cpu (Run c most ∷ h) = if c == cpu then after_take (list cpu h) most else list cpu h
list cpu (Visit c ∷ h) = if c == cpu then as_it_leaves (list cpu h) (is_owed c h) else list cpu h
list cpu (Offline c ∷ h) =
    if c == cpu
    then []
    else (if cpu == 0
    then after_migrate (list cpu h) (as_it_leaves (list c h) (is_owed c h))
    else list cpu h)
list cpu (Renumber ∷ h) = after_renumber (list cpu h)
list cpu (_ ∷ h) = list cpu h

-- the needed number: the greatest among the cookies of started polls and, for each tend, the
-- numbers that its list then waits for; 0 before any. At a renumbering, if a number above the
-- current one, which is the last, is needed, the first grace period of the next epoch is; else none
-- is needed
abbrev pub needed : History → Number
needed [] = 0
needed (StartPoll ∷ h) = max (needed h) (snapshot (number h))
needed (Tend cpu ∷ h) = greatest_from (needed h) (numbers (list cpu (Tend cpu ∷ h)))
needed (Renumber ∷ h) = if nat_lt (number h) (needed h) then 4 else 0
needed (_ ∷ h) = needed h

-- the callbacks that a run of at most this number hands out
abbrev pub handed_out : ℕ → ℕ → History → List (Queued ℕ)
handed_out cpu most h = take_answer (list cpu h) most

-- how often the callback of this place was handed out
abbrev pub times_handed_out : ℕ → History → ℕ
times_handed_out ord [] = 0
times_handed_out ord (Run cpu most ∷ h) =
    copies ord (handed_out cpu most h) + times_handed_out ord h
times_handed_out ord (_ ∷ h) = times_handed_out ord h

-- the events since the callback of this place was queued
abbrev pub since : ℕ → History → History
since ord [] = []
since ord (e ∷ h) = if queues e && (queue_count h + 1 == ord) then [] else e ∷ since ord h

-- a full grace period lies among these events: it begins and ends there
abbrev pub has_full_period : History → Bool
has_full_period h = has_full begins ends h

-- how many callbacks were queued before the latest barrier began
abbrev pub queued_before_barrier : History → ℕ
queued_before_barrier h = queue_count (latest begins_barrier h)
