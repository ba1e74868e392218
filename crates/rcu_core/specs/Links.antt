-- Definitions that connect runs and histories with the laws: a run made longer, the latest grace
-- period whether it runs or has ended, the processors heard in it, and callbacks as they were
-- queued.
use Rattle.std.specs.Prelude.{ℕ, ◌+◌, ◌≡◌, ◌==◌, ◌&&◌, Bool, true, false, if◌then◌else◌, List, []}
use Rattle.std.specs.Prelude.{◌∷◌, ◌++◌, Option, Some, None, sum_by}
use Rattle.std.specs.List.{list_any, range_with_len}
use Rattle.rcu_seq.specs.Histories.{latest}
use Rattle.rcu_seq.specs.declared.tag.Tag.{Tag}
use Rattle.rcu_cblist.specs.SegList.{callbacks}
use Rattle.rcu_cblist.specs.declared.items.Queued.{Queued}
use Rattle.rcu_barrier.specs.Runs.{copies}
use Rattle.rcu_core.specs.Callbacks.{list, queue_count, since}
use Rattle.rcu_core.specs.History.{History, begins, hears, online, tag_now}
use Rattle.rcu_core.specs.Runs.{Run}
use Rattle.rcu_core.specs.declared.event.Event.{Event}
use Rattle.rcu_core.specs.declared.event.Event.TheVariants.{Queue}
use Rattle.rcu_core.specs.declared.reply.Reply.{Reply}

-- the run made longer by these events and their replies, the first one first
abbrev pub onto : List Event → List Reply → Run → Run
onto (e ∷ events) (r ∷ replies) run = onto events replies ((e, r) ∷ run)
onto [] replies run = run
onto (e ∷ events) [] run = run

-- the tag of the latest grace period, whether it runs or has ended: the one at its begin; number 0
-- of epoch 0 before any
abbrev pub tag : History → Tag
tag h = tag_now (latest begins h)

-- the processor is in the start set of the latest grace period: one began, and the processor was
-- online then
abbrev pub starts : ℕ → History → Bool
starts cpu h = list_any begins h && online cpu (latest begins h)

-- an event since the latest begin made the processor heard in the grace period of this tag
pub record ToldSince (cpu : ℕ) (tag : Tag) (h : History) : Type 0 where
  pub later : History
  pub event : Event
  pub earlier : History
  pub is : h ≡ later ++ event ∷ earlier
  pub no_begin_later : list_any begins later ≡ false
  pub is_no_begin : begins event ≡ false
  pub tells : hears cpu tag event earlier ≡ true

-- the callback of this place among all that were queued, as it was queued: its place, the tag then,
-- and its value
abbrev pub queued_as : ℕ → History → Option (Queued ℕ)
queued_as ord [] = None
queued_as ord (Queue cpu value ∷ h) =
    if queue_count h + 1 == ord
    then Some (record { ord = queue_count h + 1; at = tag_now h; value = value })
    else queued_as ord h
queued_as ord (_ ∷ h) = queued_as ord h

-- the callback of this place was queued just before the later events: on which processor, its
-- value, and the events before it
pub record QueuedAt (ord : ℕ) (h : History) : Type 0 where
  pub cpu : ℕ
  pub value : ℕ
  pub earlier : History
  pub is : h ≡ since ord h ++ Queue cpu value ∷ earlier
  pub place : queue_count earlier + 1 ≡ ord

-- how often the callback of this place is in the lists of this many processors
abbrev pub times_listed : ℕ → ℕ → History → ℕ
times_listed cpus ord h =
    sum_by (λ cpu. copies ord (callbacks (list cpu h))) (range_with_len 0 cpus)
