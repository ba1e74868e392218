-- The numbers that one thread's deferrals wait for, in order.
use Rattle.std.specs.Prelude.{◌≡◌, ℕ, suc, ◌+◌, ◌-◌, ◌<◌, ◌≤◌, ◌%◌, ◌^◌, ◌==◌, min, nat_le}
use Rattle.std.specs.Prelude.{if◌then◌else◌, List, [], ◌∷◌, ◌++◌, drop, length, replicate, Option}
use Rattle.std.specs.Prelude.{Some, None}
use Rattle.rcu_seq.specs.Fault.{first_fault}
use Rattle.rcu_seq.specs.Numbers.{Number, snapshot}
use Rattle.rcu_seq.specs.declared.fault.Fault.{Fault}
use Rattle.rcu_seq.specs.declared.fault.Fault.TheVariants.{CallbacksFull}
use Rattle.rcu_defer.specs.declared.marks.Batch.{Batch}

-- the view of them in contracts:
pub record Marking : Type 0 where
  pub taken : ℕ
  pub done : ℕ
  pub waiting : List Number
  pub fresh : ℕ
  pub seen : Number

-- no deferral
abbrev pub at_first : Marking
at_first = record { taken = 0; done = 0; waiting = []; fresh = 0; seen = 0 }

-- the number of deferrals so far
abbrev pub deferred_of : Marking → ℕ
deferred_of m = m.done + length m.waiting + m.fresh

-- how many were not taken out yet
abbrev pub count_of : Marking → ℕ
count_of m = deferred_of m - m.taken

-- how many of those are done
abbrev pub ready_of : Marking → ℕ
ready_of m = m.done - m.taken

-- the most deferrals
abbrev pub most_deferred : ℕ
most_deferred = 2 ^ 62

-- why a deferral is refused
abbrev pub defer_refusal : Marking → Option Fault
defer_refusal m = first_fault ((deferred_of m == most_deferred, CallbacksFull) ∷ [])

-- after a deferral
abbrev pub after_defer : Marking → Marking
after_defer m = record m { fresh = m.fresh + 1 }

-- how many numbers are reached, from the front on, before one that is not
abbrev pub due : Number → List Number → ℕ
due n [] = 0
due n (until ∷ others) = if nat_le until n then suc (due n others) else 0

-- once the number is reached
abbrev pub after_advance : Marking → Number → Marking
after_advance m n = record m {
  done = m.done + due n m.waiting;
  waiting = drop (due n m.waiting) m.waiting;
  seen = n;
}

-- once those that came since the last tend wait for the snapshot of its number
abbrev pub after_mark : Marking → Marking
after_mark m = record m { waiting = m.waiting ++ replicate m.fresh (snapshot m.seen); fresh = 0 }

-- after a tend at the number
abbrev pub after_tend : Marking → Number → Marking
after_tend m n = record m {
  done = m.done + due n m.waiting;
  waiting = drop (due n m.waiting) m.waiting ++ replicate m.fresh (snapshot n);
  fresh = 0;
  seen = n;
}

-- after a take of at most this number
abbrev pub after_take : Marking → ℕ → Marking
after_take m most = record m { taken = m.taken + min most (ready_of m) }

-- the last of these numbers, which come behind this one
abbrev pub last_from : Number → List Number → Number
last_from until [] = until
last_from until (next ∷ others) = last_from next others

-- the number that the last one waits for
abbrev pub last_number : List Number → Option Number
last_number [] = None
last_number (until ∷ others) = Some (last_from until others)

-- the marks with these counts, with two batches behind those that are done
abbrev pub shown : ℕ → ℕ → Batch → Batch → ℕ → Number → Marking
shown taken done first second deferred seen = record {
  taken = taken;
  done = done;
  waiting = replicate first.count first.until ++ replicate second.count second.until;
  fresh = deferred - done - first.count - second.count;
  seen = seen;
}

-- a number that deferrals may wait for since a tend at the other one: it was not reached then, and
-- is at most the snapshot
pub record IsAhead (seen until : Number) : Type 0 where
  pub above : seen < until
  pub within : until ≤ snapshot seen
  pub even : until % 4 ≡ 0

-- two batches behind those that are done, of this number of deferrals: the second one has any only
-- if the first has, and then its number is the greater one
pub record AreBatches (taken done : ℕ) (first second : Batch) (deferred : ℕ)
    (seen : Number) : Type 0 where
  pub order : taken ≤ done
  pub inside : done + first.count + second.count ≤ deferred
  pub few : deferred ≤ most_deferred
  pub filled : first.count ≡ 0 → second.count ≡ 0
  pub first_ahead : 0 < first.count → IsAhead seen first.until
  pub second_ahead : 0 < second.count → IsAhead seen second.until
  pub ascending : 0 < second.count → first.until < second.until
