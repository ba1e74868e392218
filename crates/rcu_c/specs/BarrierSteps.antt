-- A step of waiting for a barrier: the calls of a run that it makes, the newest first.
use Rattle.std.specs.Prelude.{◌≡◌, ℕ, zero, suc, ◌<◌, ◌++◌, if◌then◌else◌, List, [], ◌∷◌, Option}
use Rattle.rcu_seq.specs.declared.fault.Fault.{Fault}
use Rattle.rcu_barrier.specs.Lists.{barrier_test_answer, visit_answer}
use Rattle.rcu_barrier.specs.declared.lists.BarrierState.{BarrierState}
use Rattle.rcu_barrier.specs.declared.lists.Visit.TheVariants.{Marked}
use Rattle.rcu_live.specs.Drive.{drive_refusal, wants_begin}
use Rattle.rcu_live.specs.Engine.{Locked}
use Rattle.rcu_live.specs.Runs.{BarrierBegin, BarrierTest, Call, Drive, Tend, Visit, engine_after}

-- a barrier begins if none runs
abbrev pub begun : {C X : Type 0} → Locked C X → List (Call X)
begun e = if e.grace.lists.running then [] else BarrierBegin ∷ []

-- it visits the first n processors
abbrev pub visits : {X : Type 0} → ℕ → List (Call X)
visits zero = []
visits (suc n) = Visit n ∷ visits n

-- the lists of the first n processors are tended
abbrev pub tends : {X : Type 0} → ℕ → List (Call X)
tends zero = []
tends (suc n) = Tend n ∷ tends n

module _ {C X : Type 0} where
  -- a barrier runs, and has visited the first n processors
  abbrev pub after_visits : Locked C X → ℕ → Locked C X
  after_visits e n = engine_after e (visits n ++ begun e)

  -- and the lists of all were tended
  abbrev pub before_drive : Locked C X → List (Call X)
  before_drive e = tends e.cpus ++ (visits e.cpus ++ begun e)

  -- and a step of driving was taken, which found these words
  abbrev pub after_driving : Locked C X → (ℕ → ℕ) → List (Call X)
  after_driving e word =
      Drive (wants_begin (engine_after e (before_drive e)).grace) word ∷ before_drive e

  -- and the barrier was tested: the whole step
  abbrev pub whole_step : Locked C X → (ℕ → ℕ) → List (Call X)
  whole_step e word = BarrierTest ∷ after_driving e word

  -- why a step is not taken to its end: the step of driving is refused
  abbrev pub step_refusal : Locked C X → Option Fault
  step_refusal e =
      let now = (engine_after e (before_drive e)).grace in drive_refusal now (wants_begin now)

  -- the answer of its test
  abbrev pub step_answer : Locked C X → (ℕ → ℕ) → BarrierState
  step_answer e word = barrier_test_answer (engine_after e (after_driving e word)).grace.lists

  -- a step for which memory was refused: a barrier runs, which visited the processors before one
  -- whose list needs a marker
  pub record IsCutOff (e now : Locked C X) : Type 0 where
    pub cpu : ℕ
    pub inside : cpu < e.cpus
    pub state : now ≡ after_visits e cpu
    pub marks : visit_answer now.grace.lists cpu ≡ Marked
