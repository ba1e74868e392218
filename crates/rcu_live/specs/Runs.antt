-- Runs of the engine: each call that it accepted, by any thread, one at a time. The newest call
-- comes first.
use Rattle.std.specs.Prelude.{ℕ, ◌+◌, ◌≡◌, ◌<◌, ◌==◌, ◌&&◌, Bool, true, false, not, nat_lt}
use Rattle.std.specs.Prelude.{if◌then◌else◌, List, [], ◌∷◌, ◌++◌, Option, Some, None}
use Rattle.rcu_seq.specs.Seq.{Periods, tag_of}
use Rattle.rcu_seq.specs.Seq as turn
use Rattle.rcu_cblist.specs.SegList.{take_answer}
use Rattle.rcu_cblist.specs.declared.items.Queued.{Queued}
use Rattle.rcu_barrier.specs.Lists.{at_first, list_of}
use Rattle.rcu_barrier.specs.Runs.{copies}
use Rattle.rcu_state.specs.GpState as grace
use Rattle.rcu_live.specs.Drive.{after_collections, after_drive}
use Rattle.rcu_live.specs.Engine.{Locked, after_begin, after_collect, after_end, after_turn}
use Rattle.rcu_live.specs.EngineLists.{after_departure, after_join, after_leave, after_load_own}
use Rattle.rcu_live.specs.EngineLists.{on_grace}

-- an accepted call, with the words that it loaded. A leave moves a list; it only departs if memory
-- was refused for that; and it only loads if it is refused by the word that it found
pub data Call (X : Type 0) : Type 0 where
  Begin : (ℕ → ℕ) → Call X
  End : Call X
  Turn : (ℕ → ℕ) → Call X
  Drive : Bool → (ℕ → ℕ) → Call X
  Collect : ℕ → ℕ → Call X
  CollectAwaited : (ℕ → ℕ) → Call X
  StartPoll : Call X
  Join : ℕ → Call X
  Leave : ℕ → ℕ → Call X
  Depart : ℕ → ℕ → Call X
  Look : ℕ → ℕ → Call X
  Queue : ℕ → X → Call X
  Tend : ℕ → Call X
  Run : ℕ → ℕ → Call X
  BarrierBegin : Call X
  Visit : ℕ → Call X
  BarrierTest : Call X

module _ {C X : Type 0} where
  -- the engine after a call
  abbrev pub after_call : Locked C X → Call X → Locked C X
  after_call e (Begin word) = after_begin e word
  after_call e End = after_end e
  after_call e (Turn word) = after_turn e word
  after_call e (Drive is_wanted word) = after_drive e is_wanted word
  after_call e (Collect cpu word) = after_collect e cpu word
  after_call e (CollectAwaited word) = after_collections e word
  after_call e StartPoll = on_grace (λ g. grace.after_start_poll g) e
  after_call e (Join cpu) = after_join e cpu
  after_call e (Leave cpu word) = after_leave e cpu word
  after_call e (Depart cpu word) = after_departure e cpu word
  after_call e (Look cpu word) = after_load_own e cpu word
  after_call e (Queue cpu value) = on_grace (λ g. grace.after_queue g cpu value) e
  after_call e (Tend cpu) = on_grace (λ g. grace.after_tend g cpu) e
  after_call e (Run cpu most) = on_grace (λ g. grace.after_run g cpu most) e
  after_call e BarrierBegin = on_grace (λ g. grace.after_barrier_begin g) e
  after_call e (Visit cpu) = on_grace (λ g. grace.after_visit g cpu) e
  after_call e BarrierTest = on_grace (λ g. grace.after_barrier_test g) e

  -- an accepted call is allowed: a callback's call names a processor; a leave is of a processor
  -- other than 0; no grace period and no barrier begins while one runs, and an end, a test and a
  -- collection are of one that runs
  abbrev pub MayCall : Locked C X → Call X → Type 0
  MayCall e (Begin word) = e.grace.seq.running ≡ false
  MayCall e End = e.grace.seq.running ≡ true
  MayCall e (CollectAwaited word) = e.grace.seq.running ≡ true
  MayCall e (Leave cpu word) = (0 < cpu) × (cpu < e.cpus)
  MayCall e (Queue cpu value) = cpu < e.cpus
  MayCall e (Tend cpu) = cpu < e.cpus
  MayCall e (Run cpu most) = cpu < e.cpus
  MayCall e BarrierBegin = e.grace.lists.running ≡ false
  MayCall e (Visit cpu) = (cpu < e.cpus) × (e.grace.lists.running ≡ true)
  MayCall e BarrierTest = e.grace.lists.running ≡ true
  MayCall e _ = Unit {0}

  -- the engine took a step of a run: the call is allowed, and this is the engine after it
  pub record Makes (call : Call X) (old new : Locked C X) : Type 0 where
    pub may : MayCall old call
    pub left : new ≡ after_call old call

  -- the lists are as at first: nothing was queued, and no barrier runs
  abbrev pub IsNew : Locked C X → Type 0
  IsNew e = e.grace.lists ≡ at_first e.cpus e.grace.lists.most

  -- the engine after a run that began with this one
  abbrev pub engine_after : Locked C X → List (Call X) → Locked C X
  engine_after first [] = first
  engine_after first (call ∷ calls) = after_call (engine_after first calls) call

  -- each call of the run was allowed when it was made
  abbrev pub IsRun : Locked C X → List (Call X) → Type 0
  IsRun first [] = Unit {0}
  IsRun first (call ∷ calls) = MayCall (engine_after first calls) call × IsRun first calls

  -- how often the callback with this ord was handed out
  abbrev pub times_handed_out : ℕ → Locked C X → List (Call X) → ℕ
  times_handed_out ord first [] = 0
  times_handed_out ord first (Run cpu most ∷ calls) =
      copies ord (take_answer (list_of (engine_after first calls).grace.lists cpu) most)
      + times_handed_out ord first calls
  times_handed_out ord first (_ ∷ calls) = times_handed_out ord first calls

  -- the callback with this ord, as it was queued: with the tag then, and its value
  abbrev pub queued_as : ℕ → Locked C X → List (Call X) → Option (Queued X)
  queued_as ord first [] = None
  queued_as ord first (Queue cpu value ∷ calls) =
      let e = engine_after first calls in
      if e.grace.lists.queued + 1 == ord
      then Some (record { ord = e.grace.lists.queued + 1; at = tag_of e.grace.seq; value = value })
      else queued_as ord first calls
  queued_as ord first (_ ∷ calls) = queued_as ord first calls

  -- how many callbacks were queued before the latest barrier began
  abbrev pub queued_before_barrier : Locked C X → List (Call X) → ℕ
  queued_before_barrier first [] = 0
  queued_before_barrier first (BarrierBegin ∷ calls) = (engine_after first calls).grace.lists.queued
  queued_before_barrier first (_ ∷ calls) = queued_before_barrier first calls

-- the begin and the end of a grace period that one call makes on a counter, the newest first: one
-- ended if the count of ends is higher; one began if none ran before, and one runs now or has ended
abbrev pub turns_between : Periods → Periods → List turn.Turn
turns_between old new =
    if nat_lt old.ends new.ends then turn.End ∷ (if old.running then [] else turn.Begin ∷ [])
    else (if new.running && not old.running then turn.Begin ∷ [] else [])

module _ {C X : Type 0} where
  -- the call queues the callback with this ord
  abbrev pub queues : ℕ → Locked C X → Call X → Bool
  queues ord e (Queue cpu value) = e.grace.lists.queued + 1 == ord
  queues ord e _ = false

  -- the begins and the ends of grace periods since the callback with this ord was queued
  abbrev pub turns_since : ℕ → Locked C X → List (Call X) → List turn.Turn
  turns_since ord first [] = []
  turns_since ord first (call ∷ calls) =
      let e = engine_after first calls in
      if queues ord e call then []
      else turns_between e.grace.seq (after_call e call).grace.seq ++ turns_since ord first calls
