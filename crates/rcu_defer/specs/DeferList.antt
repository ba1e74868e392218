-- One thread's list of deferred values.
use Rattle.std.specs.Prelude.{ℕ, min, List, [], ◌∷◌, ◌++◌, take, drop, unwrap_or}
use Rattle.rcu_seq.specs.Numbers.{Number}
use Rattle.rcu_seq.specs.declared.fault.Fault.{Fault}
use Rattle.rcu_seq.specs.declared.fault.Fault.TheVariants.{NoMemory}
use Rattle.rcu_defer.specs.Marks.{Marking, after_defer, after_take, after_tend, at_first}
use Rattle.rcu_defer.specs.Marks.{defer_refusal, ready_of}

-- the view of a list in contracts:
pub record Deferring (X : Type 0) : Type 0 where
  pub values : List X
  pub marks : Marking
  pub room : ℕ

module _ {X : Type 0} where
  -- no value
  abbrev pub list_at_first : Deferring X
  list_at_first = record { values = []; marks = at_first; room = 0 }

  -- the same with this room
  abbrev pub with_room : Deferring X → ℕ → Deferring X
  with_room s room = record s { room = room }

  -- the fault of a refused deferral: memory, if no other cause holds
  abbrev pub defer_fault : Deferring X → Fault
  defer_fault s = unwrap_or (defer_refusal s.marks) NoMemory

  -- after a deferral: the value is behind all others
  abbrev pub list_after_defer : Deferring X → X → Deferring X
  list_after_defer s x = record s { values = s.values ++ x ∷ []; marks = after_defer s.marks }

  -- after a tend at the number
  abbrev pub list_after_tend : Deferring X → Number → Deferring X
  list_after_tend s n = record s { marks = after_tend s.marks n }

  -- the values that a take of at most this number takes out: the first ones, of those that are done
  abbrev pub taken_values : Deferring X → ℕ → List X
  taken_values s most = take (min most (ready_of s.marks)) s.values

  -- the list after that take
  abbrev pub list_after_take : Deferring X → ℕ → Deferring X
  list_after_take s most = record s {
    values = drop (min most (ready_of s.marks)) s.values;
    marks = after_take s.marks most;
  }
