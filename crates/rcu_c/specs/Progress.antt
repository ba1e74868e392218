-- The calls that lead to the end of a barrier: steps of waiting for it, and runs of all lists.
use Rattle.std.specs.Prelude.{◌≡◌, ℕ, zero, suc, ◌<◌, ◌≤◌, ◌++◌, Bool, true, false, List, []}
use Rattle.std.specs.Prelude.{◌∷◌, length}
use Rattle.std.specs.List.{list_any}
use Rattle.rcu_cblist.specs.SegList.{callbacks, front}
use Rattle.rcu_barrier.specs.Lists.{list_of}
use Rattle.rcu_live.specs.Engine.{Locked, next_number}
use Rattle.rcu_live.specs.Numbers.{reports_quiescence}
use Rattle.rcu_live.specs.Runs.{BarrierBegin, Call, IsRun, Leave, Run, engine_after}
use Rattle.rcu_c.specs.BarrierSteps.{whole_step}

-- callbacks of the first n processors are handed out, of each processor at most this number
abbrev pub runs : {X : Type 0} → (ℕ → ℕ) → ℕ → List (Call X)
runs most zero = []
runs most (suc n) = Run n (most n) ∷ runs most n

-- the call delays the end of a barrier: a list moves to another processor, where its callbacks have
-- to wait for a new number, or a barrier begins
abbrev pub puts_off : {X : Type 0} → Call X → Bool
puts_off (Leave cpu word) = true
puts_off BarrierBegin = true
puts_off _ = false

module _ {C X : Type 0} where
  -- each word reports a quiescent state in the running grace period or, if none runs, in the next
  -- one
  abbrev pub AreQuiet : Locked C X → (ℕ → ℕ) → Type 0
  AreQuiet e word = (cpu : ℕ) → reports_quiescence (next_number e.grace) (word cpu) ≡ true

  -- a step of waiting for a barrier was taken, whose step of driving found these words. Other calls
  -- followed, and the barrier still runs
  pub record Waited (e : Locked C X) (word : ℕ → ℕ) (now : Locked C X) : Type 0 where
    pub later : List (Call X)
    pub run : IsRun e (later ++ whole_step e word)
    pub state : now ≡ engine_after e (later ++ whole_step e word)
    pub others : list_any puts_off later ≡ false
    pub running : now.grace.lists.running ≡ true

  -- all done callbacks of each list were handed out. Other calls followed, and the barrier still
  -- runs
  pub record HandedOut (e now : Locked C X) : Type 0 where
    pub most : ℕ → ℕ
    pub enough : (cpu : ℕ) → cpu < e.cpus
        → length (callbacks (front (list_of e.grace.lists cpu))) ≤ most cpu
    pub later : List (Call X)
    pub run : IsRun e (later ++ runs most e.cpus)
    pub state : now ≡ engine_after e (later ++ runs most e.cpus)
    pub others : list_any puts_off later ≡ false
    pub running : now.grace.lists.running ≡ true
