-- The state of the grace periods and the callbacks, after each call, and why a call is refused.
use Rattle.std.specs.Prelude.{ℕ, ◌+◌, ◌≤◌, ◌≡◌, ◌==◌, ◌&&◌, Bool, true, false, not, max, nat_lt}
use Rattle.std.specs.Prelude.{if◌then◌else◌, List, [], ◌∷◌, All, Option, filter, slice_set}
use Rattle.std.specs.List.{range_with_len}
use Rattle.rcu_seq.specs.Fault.{first_fault}
use Rattle.rcu_seq.specs.Numbers.{Number, same_number, snapshot}
use Rattle.rcu_seq.specs.declared.tag.Tag.{Tag}
use Rattle.rcu_seq.specs.Seq as counter
use Rattle.rcu_seq.specs.Seq.{Periods, cookie_of, number_of, renumbered, tag_of}
use Rattle.rcu_seq.specs.declared.fault.Fault.{Fault}
use Rattle.rcu_seq.specs.declared.fault.Fault.TheVariants as fault
use Rattle.rcu_node.specs.CpuSet.{is_in, size_of}
use Rattle.rcu_node.specs.Reports.{report_answer, awaited_after_report}
use Rattle.rcu_node.specs.declared.awaited.Answer.{Answer}
use Rattle.rcu_node.specs.declared.awaited.Answer.TheVariants.{Stale}
use Rattle.rcu_report.specs.declared.batch.Report.{Report}
use Rattle.rcu_hotplug.specs.Hotplug as hotplug
use Rattle.rcu_hotplug.specs.Hotplug.{Processors, Call, Begin}
use Rattle.rcu_cblist.specs.SegList.{Item, Mark, Of, Marker, Unmarked, Until, Done, numbers}
use Rattle.rcu_barrier.specs.Lists as lists
use Rattle.rcu_barrier.specs.Lists.{AllLists, ListsWithRooms}
use Rattle.rcu_state.specs.Periods.{PeriodSituation, greatest_from, wants_begin}
use Rattle.rcu_state.specs.declared.gp_state.CurrentAnswer.{CurrentAnswer}
use Rattle.rcu_state.specs.declared.gp_state.CurrentAnswer.TheVariants as current
use Rattle.rcu_state.specs.declared.gp_state.Turned.{Turned}
use Rattle.rcu_state.specs.declared.gp_state.Turned.TheVariants as turned

-- the counter of grace periods, the greatest number that was requested, the processors that are
-- online and those that the latest grace period awaits, and each processor's list of callbacks
pub record Grace (X : Type 0) : Type 0 where
  pub seq : Periods
  pub needed : Number
  pub processors : Processors
  pub lists : AllLists X

-- the view of the state in contracts:
pub record GraceWithRooms (X : Type 0) : Type 0 where
  pub grace : Grace X
  pub rooms : List ℕ

-- a callback was queued no later than now
abbrev pub IsNoLater : Tag → Tag → Type 0
IsNoLater now at = (at.epoch ≤ now.epoch) × (at.epoch ≡ now.epoch → at.number ≤ now.number)

-- if a callback was queued in this epoch, the snapshot of the tag at which it was queued is at most
-- a number
abbrev pub IsDue : Tag → Tag → Number → Type 0
IsDue now at n = at.epoch ≡ now.epoch → snapshot at.number ≤ n

-- a callback that was queued at one tag has this mark at another: it was queued no later; the
-- number that it waits for is no sooner than the snapshot of the tag at which it was queued, if
-- that was in this epoch, and no later than the snapshot of now; and if it is done, the number has
-- reached the snapshot of the tag at which it was queued, if that was in this epoch
abbrev pub IsTimely : Tag → Tag → Mark → Type 0
IsTimely now at Unmarked = IsNoLater now at
IsTimely now at (Until n) = IsNoLater now at × IsDue now at n × (n ≤ snapshot now.number)
IsTimely now at Done = IsNoLater now at × IsDue now at now.number

-- a callback was queued in an earlier epoch, or the number has reached the snapshot of the tag at
-- which it was queued
abbrev pub HasWaited : Tag → Tag → Type 0
HasWaited now at = (at.epoch ≤ now.epoch) × IsDue now at now.number

-- the processors below n that pass a test, ascending
abbrev pub which : ℕ → (ℕ → Bool) → List ℕ
which n test = filter test (range_with_len 0 n)

module _ {X : Type 0} where
  -- the lists, with their rooms
  abbrev pub lists_of : GraceWithRooms X → ListsWithRooms X
  lists_of g = record { all = g.grace.lists; rooms = g.rooms }

  -- with another value, and the same room
  abbrev pub on_grace : (Grace X → Grace X) → GraceWithRooms X → GraceWithRooms X
  on_grace change g = record g { grace = change g.grace }

  -- before any call no grace period ran, none is needed, processor 0 alone is online, and the lists
  -- are empty
  abbrev pub at_first : ℕ → Number → ℕ → Grace X
  at_first cpus last most = record {
    seq = record { epoch = 0; ends = 0; running = false; last = last };
    needed = 0;
    processors = hotplug.at_first cpus;
    lists = lists.at_first cpus most;
  }

  -- how many processors are awaited
  abbrev pub awaited_in : Grace X → ℕ
  awaited_in g = size_of g.processors.awaited

  -- after a call on the processors
  abbrev pub with_call : Grace X → Call → Grace X
  with_call g call = record g { processors = hotplug.after_call g.processors call }

  -- why no grace period begins: one runs, or the number is the last one
  abbrev pub begin_refusal : Grace X → Option Fault
  begin_refusal g = counter.refusal g.seq counter.Begin

  -- a grace period began: it awaits the online processors, and its tag is that of now
  abbrev pub after_begin : Grace X → Grace X
  after_begin g =
      let seq = record g.seq { running = true } in
      record (with_call g (Begin (tag_of seq))) { seq = seq }

  -- why no grace period ends: none runs, or a processor is awaited
  abbrev pub end_refusal : Grace X → Option Fault
  end_refusal g =
      first_fault ((not g.seq.running, fault.Idle) ∷ (nat_lt 0 (awaited_in g), fault.Waiting) ∷ [])

  -- the grace period ended
  abbrev pub after_end : Grace X → Grace X
  after_end g = record g { seq = record g.seq { ends = g.seq.ends + 1; running = false } }

  -- the answer to a report: while no grace period runs, every report is stale
  abbrev pub report_answer_in : Grace X → Report → Answer
  report_answer_in g report =
      if g.seq.running
      then report_answer (tag_of g.seq) g.processors.awaited report.cpu report.tag
      else Stale

  -- the processors that are awaited after a report: a report that is not stale clears its processor
  abbrev pub awaited_after : Grace X → Report → List Bool
  awaited_after g report =
      if g.seq.running
      then awaited_after_report (tag_of g.seq) g.processors.awaited report.cpu report.tag
      else g.processors.awaited

  -- with these processors awaited
  abbrev pub with_awaited : Grace X → List Bool → Grace X
  with_awaited g awaited = record g { processors = record g.processors { awaited = awaited } }

  -- after a report
  abbrev pub after_report : Grace X → Report → Grace X
  after_report g report = with_awaited g (awaited_after g report)

  -- the report of a processor that noted the tag of now
  abbrev pub own_report : Grace X → ℕ → Report
  own_report g cpu = record { cpu = cpu; tag = tag_of g.seq }

  -- the answer to that report
  abbrev pub answer_now : Grace X → ℕ → Answer
  answer_now g cpu = report_answer_in g (own_report g cpu)

  -- after that report
  abbrev pub after_report_now : Grace X → ℕ → Grace X
  after_report_now g cpu = after_report g (own_report g cpu)

  -- the answer to a report of the processor for the running grace period
  abbrev pub current_answer : Grace X → ℕ → CurrentAnswer
  current_answer g cpu =
      if not (is_in g.processors.awaited cpu) then current.Repeat
      else (if awaited_in g == 1 then current.Last else current.Taken)

  -- after that report
  abbrev pub after_current_report : Grace X → ℕ → Grace X
  after_current_report g cpu = with_awaited g (slice_set g.processors.awaited cpu false)

  -- its counter and its needed number
  abbrev pub periods_of : Grace X → PeriodSituation
  periods_of g = record {
    epoch = g.seq.epoch;
    ends = g.seq.ends;
    running = g.seq.running;
    needed = g.needed;
  }

  -- why a turn is refused: it would begin a grace period, and the number is the last one
  abbrev pub turn_refusal : Grace X → Option Fault
  turn_refusal g =
      first_fault ((
        wants_begin (periods_of g) && same_number (number_of g.seq) g.seq.last,
        fault.Exhausted,
      )
      ∷ [])

  -- the answer of a turn:
  abbrev pub turn_answer : Grace X → Turned
  turn_answer g =
      if g.seq.running
      then (if awaited_in g == 0
      then turned.Ended (number_of (after_end g).seq)
      else turned.Waiting (awaited_in g))
      else (if wants_begin (periods_of g)
      then turned.Begun (number_of (after_begin g).seq) (awaited_in (after_begin g))
      else turned.Nothing)

  -- the state after a turn
  abbrev pub after_turn : Grace X → Grace X
  after_turn g =
      if g.seq.running then (if awaited_in g == 0 then after_end g else g)
      else (if wants_begin (periods_of g) then after_begin g else g)

  -- a poll was started: the number of its cookie is needed
  abbrev pub after_start_poll : Grace X → Grace X
  after_start_poll g = record g { needed = max g.needed (cookie_of g.seq).number }

  -- with the lists changed
  abbrev pub on_lists : (AllLists X → AllLists X) → Grace X → Grace X
  on_lists change g = record g { lists = change g.lists }

  -- a callback was queued on a processor, at the tag of now
  abbrev pub after_queue : Grace X → ℕ → X → Grace X
  after_queue g cpu value = on_lists (λ all. lists.lists_after_queue all cpu (tag_of g.seq) value) g

  -- a processor's list was tended at the current number; the number that it then waits for is
  -- needed
  abbrev pub after_tend : Grace X → ℕ → Grace X
  after_tend g cpu =
      let tended = on_lists (λ all. lists.lists_after_tend all cpu (number_of g.seq)) g in
      record tended { needed = greatest_from g.needed (numbers (lists.list_of tended.lists cpu)) }

  -- at most this number of callbacks were handed out of a processor's done part
  abbrev pub after_run : Grace X → ℕ → ℕ → Grace X
  after_run g cpu most = on_lists (λ all. lists.lists_after_run all cpu most) g

  -- a processor's list moved to processor 0
  abbrev pub after_migrate : Grace X → ℕ → Grace X
  after_migrate g cpu = on_lists (λ all. lists.lists_after_migrate all cpu) g

  -- a barrier began
  abbrev pub after_barrier_begin : Grace X → Grace X
  after_barrier_begin g = on_lists lists.lists_after_barrier_begin g

  -- the barrier visited a processor
  abbrev pub after_visit : Grace X → ℕ → Grace X
  after_visit g cpu = on_lists (λ all. lists.lists_after_visit all cpu) g

  -- the barrier was tested
  abbrev pub after_barrier_test : Grace X → Grace X
  after_barrier_test g = on_lists lists.lists_after_barrier_test g

  -- why the counter is not renumbered: a grace period runs, the number is not the last one, or the
  -- epoch is the last one
  abbrev pub renumber_refusal : Grace X → Option Fault
  renumber_refusal g = counter.refusal g.seq counter.Renumber

  -- the numbers start again at 0 in the next epoch: waiting callbacks have no number, and if a
  -- number above the last one was needed, the first grace period of this epoch is
  abbrev pub after_renumber : Grace X → Grace X
  after_renumber g = record (on_lists lists.lists_after_renumber g) {
    seq = renumbered g.seq;
    needed = if nat_lt (number_of g.seq) g.needed then 4 else 0;
  }

  -- each callback of the list is timely now
  abbrev pub AreTimely : Tag → List (Item X) → Type 0
  AreTimely now [] = Unit {0}
  AreTimely now (Of call mark ∷ xs) = IsTimely now call.at mark × AreTimely now xs
  AreTimely now (Marker ∷ xs) = AreTimely now xs

  -- the invariant: there is a list for each processor; while a grace period runs, the tag of now is
  -- that of the awaited set; and each callback is timely at it
  pub record IsSound (g : Grace X) : Type 0 where
    pub tag : g.seq.running ≡ true → g.processors.tag ≡ tag_of g.seq
    pub sized : lists.cpus_of g.lists ≡ hotplug.cpus_of g.processors
    pub timely : All (AreTimely (tag_of g.seq)) g.lists.lists
