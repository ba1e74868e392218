-- Runs of six calls, the newest first.
use Rattle.std.specs.Prelude.{◌≡◌, ℕ, List, [], ◌∷◌}
use Rattle.rcu_live.specs.Engine.{Locked}
use Rattle.rcu_live.specs.Runs.{Call, IsRun, engine_after, Begin, End, Queue, Run, Tend}

module _ {X : Type 0} where
  -- a callback of processor 0 is queued and tended, a grace period begins, which finds these words,
  -- and ends, and the callback is tended and handed out
  abbrev pub calls_made : (ℕ → ℕ) → X → List (Call X)
  calls_made word value = Run 0 1 ∷ Tend 0 ∷ End ∷ Begin word ∷ Tend 0 ∷ Queue 0 value ∷ []

module _ {C X : Type 0} where
  -- six calls led from the one engine to the other
  pub record AreLed (first : Locked C X) (value : X) (last : Locked C X) : Type 0 where
    pub word : ℕ → ℕ
    pub run : IsRun first (calls_made word value)
    pub left : last ≡ engine_after first (calls_made word value)
