-- Deferrals beside sections: the calls of one thread, each at a moment of the engine.
use Rattle.std.specs.Prelude.{◌≡◌, ℕ, List, map, Some, slice_index}
use mathlib.Core.Option.{some}
use lib.ListN.{get_elem?}
use Rattle.atomic_table.specs.Table.{State}
use Rattle.rcu_seq.specs.Numbers.{Number}
use Rattle.rcu_live.specs.Client.{Views}
use Rattle.rcu_live.specs.Rule.{IsKept}
use Rattle.rcu_live.specs.declared.view.Role.TheVariants.{Cpu}
use Rattle.rcu_live.specs.declared.view.View.{View}
use Rattle.rcu_defer.specs.Histories.{Call, Tend}

-- a moment: all shared words and seats, and the thread's call at that moment
pub record Moment (C X : Type 0) : Type 0 where
  pub state : State (Unit {0}) (View C)
  pub call : Call X

module _ {C X : Type 0} where
  -- the calls of these moments
  abbrev pub calls_of : List (Moment C X) → List (Call X)
  calls_of moments = map (λ m. m.call) moments

  -- the engine's rule holds, and a tend is at the number of the moment
  pub record IsMoment (holds : List ℕ → Views C → Type 0) (cpus : ℕ)
      (m : Moment C X) : Type 0 where
    pub kept : IsKept holds cpus m.state
    pub number : (n : Number) → m.call ≡ Tend n → n ≡ slice_index m.state.words 0

  -- this seat has a section open, which began at this number
  pub record HasOpen (seat : ℕ) (at : Number) (m : Moment C X) : Type 0 where
    pub view : View C
    pub is : get_elem? m.state.views seat ≡ some view
    pub cpu : view.role ≡ Cpu
    pub section : view.section ≡ Some at
