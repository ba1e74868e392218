-- Small runs of the engine's calls, the newest first.
use Rattle.std.specs.Prelude.{true, List, [], ◌∷◌}
use Rattle.rcu_live.specs.Numbers.{idle_word}
use Rattle.rcu_live.specs.Runs.{Call, BarrierBegin, Begin, Drive, End, Queue, Run, Tend, Visit}

module _ {X : Type 0} where
  -- five calls after which a callback of processor 0 is done: it is queued and tended, a grace
  -- period begins, which finds the processor idle, and ends, and the callback is tended
  abbrev pub five_calls : X → List (Call X)
  five_calls value = Tend 0 ∷ End ∷ Begin (λ _. idle_word) ∷ Tend 0 ∷ Queue 0 value ∷ []

  -- the sixth hands it out
  abbrev pub six_calls : X → List (Call X)
  six_calls value = Run 0 1 ∷ five_calls value

  -- a barrier begins behind a callback, and visits it; a step of driving is a whole grace period,
  -- and the callback is handed out
  abbrev pub under_a_barrier : X → List (Call X)
  under_a_barrier value =
      Run 0 1 ∷ Tend 0 ∷ Drive true (λ _. idle_word) ∷ Tend 0 ∷ Visit 0 ∷ BarrierBegin
      ∷ Queue 0 value ∷ []
