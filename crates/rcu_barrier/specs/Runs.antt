-- Runs of calls on all lists, by any callers, one at a time: the lists after them, and the
-- callbacks that were handed out. The newest call comes first.
use Rattle.std.specs.Prelude.{ℕ, ◌+◌, ◌≡◌, ◌<◌, ◌==◌, Bool, true, false, if◌then◌else◌, List, []}
use Rattle.std.specs.Prelude.{◌∷◌, Option, Some, None, count_by, sum_by}
use Rattle.rcu_seq.specs.Numbers.{Number}
use Rattle.rcu_seq.specs.declared.tag.Tag.{Tag}
use Rattle.rcu_cblist.specs.declared.items.Queued.{Queued}
use Rattle.rcu_cblist.specs.SegList.{callbacks, take_answer}
use Rattle.rcu_barrier.specs.Lists.{AllLists, at_first, cpus_of, list_of, lists_after_barrier_begin}
use Rattle.rcu_barrier.specs.Lists.{lists_after_barrier_test, lists_after_migrate}
use Rattle.rcu_barrier.specs.Lists.{lists_after_queue, lists_after_renumber, lists_after_run}
use Rattle.rcu_barrier.specs.Lists.{lists_after_tend, lists_after_visit}

-- an accepted call: a callback is queued on a processor at a tag; a processor's list is tended at a
-- number; at most this number of its callbacks are handed out; it moves to processor 0; a barrier
-- begins, visits a processor, is tested; the counter is renumbered
pub data Call (X : Type 0) : Type 0 where
  Queue : ℕ → Tag → X → Call X
  Tend : ℕ → Number → Call X
  Run : ℕ → ℕ → Call X
  Migrate : ℕ → Call X
  BarrierBegin : Call X
  Visit : ℕ → Call X
  BarrierTest : Call X
  Renumber : Call X

-- how many of these callbacks are the one of this place among all that were queued, counted from 1
abbrev pub copies : {X : Type 0} → ℕ → List (Queued X) → ℕ
copies place queued = count_by (λ callback. callback.ord == place) queued

module _ {X : Type 0} where
  -- the lists are as at first: nothing was queued, and no barrier runs
  abbrev pub IsNew : AllLists X → Type 0
  IsNew all = all ≡ at_first (cpus_of all) all.most

  -- the call is allowed: it names a processor; processor 0's list does not move; no barrier begins
  -- while one runs, and a visit and a test are of one that runs
  abbrev pub MayCall : AllLists X → Call X → Type 0
  MayCall all (Queue cpu at value) = cpu < cpus_of all
  MayCall all (Tend cpu number) = cpu < cpus_of all
  MayCall all (Run cpu most) = cpu < cpus_of all
  MayCall all (Migrate cpu) = (0 < cpu) × (cpu < cpus_of all)
  MayCall all BarrierBegin = all.running ≡ false
  MayCall all (Visit cpu) = (cpu < cpus_of all) × (all.running ≡ true)
  MayCall all BarrierTest = all.running ≡ true
  MayCall all Renumber = Unit {0}

  -- the lists after a call
  abbrev pub after_call : AllLists X → Call X → AllLists X
  after_call all (Queue cpu at value) = lists_after_queue all cpu at value
  after_call all (Tend cpu number) = lists_after_tend all cpu number
  after_call all (Run cpu most) = lists_after_run all cpu most
  after_call all (Migrate cpu) = lists_after_migrate all cpu
  after_call all BarrierBegin = lists_after_barrier_begin all
  after_call all (Visit cpu) = lists_after_visit all cpu
  after_call all BarrierTest = lists_after_barrier_test all
  after_call all Renumber = lists_after_renumber all

  -- the lists after a run that began with these
  abbrev pub lists_after : AllLists X → List (Call X) → AllLists X
  lists_after first [] = first
  lists_after first (call ∷ calls) = after_call (lists_after first calls) call

  -- each call of the run was allowed when it was made
  abbrev pub IsRun : AllLists X → List (Call X) → Type 0
  IsRun first [] = Unit {0}
  IsRun first (call ∷ calls) = MayCall (lists_after first calls) call × IsRun first calls

  -- how often the callback of this place was handed out
  abbrev pub times_handed_out : ℕ → AllLists X → List (Call X) → ℕ
  times_handed_out place first [] = 0
  times_handed_out place first (Run cpu most ∷ calls) =
      copies place (take_answer (list_of (lists_after first calls) cpu) most)
      + times_handed_out place first calls
  times_handed_out place first (_ ∷ calls) = times_handed_out place first calls

  -- how often it is in the lists
  abbrev pub times_listed : ℕ → AllLists X → ℕ
  times_listed place all = sum_by (λ xs. copies place (callbacks xs)) all.lists

  -- the whereabouts of the callback of this place after a run: how often it was handed out, and how
  -- often it is in the lists
  abbrev pub whereabouts : ℕ → AllLists X → List (Call X) → ℕ × ℕ
  whereabouts place first calls =
      (times_handed_out place first calls, times_listed place (lists_after first calls))

  -- the callback of this place, as it was queued: its place, the tag then, and its value
  abbrev pub queued_as : ℕ → AllLists X → List (Call X) → Option (Queued X)
  queued_as place first [] = None
  queued_as place first (Queue cpu at value ∷ calls) =
      if (lists_after first calls).queued + 1 == place
      then Some (record { ord = (lists_after first calls).queued + 1; at = at; value = value })
      else queued_as place first calls
  queued_as place first (_ ∷ calls) = queued_as place first calls

  -- the call begins a barrier
  abbrev pub begins_barrier : Call X → Bool
  begins_barrier BarrierBegin = true
  begins_barrier (Queue cpu at value) = false
  begins_barrier (Tend cpu number) = false
  begins_barrier (Run cpu most) = false
  begins_barrier (Migrate cpu) = false
  begins_barrier (Visit cpu) = false
  begins_barrier BarrierTest = false
  begins_barrier Renumber = false

  -- how many callbacks were queued before the latest barrier began
  abbrev pub queued_before_barrier : AllLists X → List (Call X) → ℕ
  queued_before_barrier first [] = 0
  queued_before_barrier first (BarrierBegin ∷ calls) = (lists_after first calls).queued
  queued_before_barrier first (_ ∷ calls) = queued_before_barrier first calls
