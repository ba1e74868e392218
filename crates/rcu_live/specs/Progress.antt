-- The calls of the engine that delay callbacks and barriers; and who is quiet at a moment of the
-- shared words, so that a load of its own word reports it.
use Rattle.std.specs.Prelude.{◌≡◌, ◌⊎◌, ℕ, ◌+◌, ◌≤◌, ◌==◌, Bool, true, false, List, slice_index}
use mathlib.Core.Option.{some}
use lib.ListN.{get_elem?}
use Rattle.atomic_table.specs.Table.{State}
use Rattle.rcu_seq.specs.Numbers.{Number}
use Rattle.rcu_live.specs.Client.{Views}
use Rattle.rcu_live.specs.Numbers.{idle_word}
use Rattle.rcu_live.specs.Rule.{IsKept}
use Rattle.rcu_live.specs.Runs.{BarrierBegin, Call, Leave}
use Rattle.rcu_live.specs.View.{IsOfEngine}
use Rattle.rcu_live.specs.Words.{own_word_index}
use Rattle.rcu_live.specs.declared.view.Role.TheVariants.{Cpu}
use Rattle.rcu_live.specs.declared.view.View.{View}

-- the processor leaves, and its list moves to processor 0
abbrev pub leaves : {X : Type 0} → ℕ → Call X → Bool
leaves cpu (Leave c word) = c == cpu
leaves cpu _ = false

-- a barrier begins
abbrev pub begins_barrier : {X : Type 0} → Call X → Bool
begins_barrier BarrierBegin = true
begins_barrier _ = false

module _ {C : Type 0} where
  -- the processor of a seat is quiet in grace period t: it departed, is idle, or passed its latest
  -- quiescent state at the number t or a later one
  abbrev pub IsQuiet : Number → View C → Type 0
  IsQuiet t seat =
      (seat.own_word ≡ 0)
      ⊎ ((seat.own_word ≡ idle_word)
      ⊎ ((at : Number) × (t ≤ at) × (seat.own_word ≡ at + 1)))

  -- at this moment the processor has a seat, and is quiet in grace period t
  pub record IsQuietAt (now : State (Unit {0}) (View C)) (t : Number) (cpu : ℕ) : Type 0 where
    pub id : ℕ
    pub seat : View C
    pub here : get_elem? now.views id ≡ some seat
    pub role : seat.role ≡ Cpu
    pub own : seat.cpu ≡ cpu
    pub quiet : IsQuiet t seat

  -- at this moment, at which the rule holds, the engine of grace period t loads the own word of the
  -- processor, and finds this word
  pub record LoadsAt (holds : List ℕ → Views C → Type 0) (cpus : ℕ)
      (now : State (Unit {0}) (View C)) (t : Number) (cpu word : ℕ) : Type 0 where
    pub kept : IsKept holds cpus now
    pub id : ℕ
    pub engine : View C
    pub here : get_elem? now.views id ≡ some engine
    pub role : IsOfEngine engine
    pub number : engine.seen ≡ t
    pub found : slice_index now.words (own_word_index cpu) ≡ word
