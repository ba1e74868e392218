-- The processor that is asked to wake sleeping waiters: the rule of that word, of the askings and
-- of the processors' seats, between any two atomic steps.
use Rattle.std.specs.Prelude.{◌≡◌, ◌⊎◌, ℕ, ◌+◌, ◌<◌, ◌≤◌, true, List, length, slice_index}
use mathlib.Core.Option.{some}
use lib.ListN.{get_elem?}
use Rattle.atomic_table.specs.Table.{State}
use Rattle.rcu_live.specs.Client.{Views}
use Rattle.rcu_live.specs.Rule.{IsKept}
use Rattle.rcu_live.specs.Words.{asked_index}
use Rattle.rcu_live.specs.declared.view.Role.TheVariants.{Asker, Cpu}
use Rattle.rcu_live.specs.declared.view.View.{View}

module _ {C : Type 0} where
  -- the processor that is asked, and one more; 0 if none is
  abbrev pub asked_at : State (Unit {0}) (View C) → ℕ
  asked_at s = slice_index s.words asked_index

  -- the latest asking
  pub record IsLastAsking (views : List (View C)) (id : ℕ) (asking : View C) : Type 0 where
    pub here : get_elem? views id ≡ some asking
    pub role : asking.role ≡ Asker
    pub last : (other : ℕ) (v : View C) → get_elem? views other ≡ some v → v.role ≡ Asker
        → other ≤ id

  -- the latest asking is still in force, and the seat of that processor has looked and answered
  -- since its latest store: then it has not stored since the asking
  abbrev pub IsUnreported : ℕ → View C → View C → Type 0
  IsUnreported word asking seat =
      word ≡ asking.cpu + 1
      → seat.role ≡ Cpu
      → seat.cpu ≡ asking.cpu
      → seat.answered ≡ true
      → asking.stores ≡ seat.stores

  -- the rule of the askings and the answers. There is at least one seat
  pub record IsAwake (s : State (Unit {0}) (View C)) : Type 0 where
    pub opened : 0 < length s.views
    -- the processor that was asked last is asked, or none is
    pub stands : (id : ℕ) (asking : View C) → IsLastAsking s.views id asking
        → (asked_at s ≡ 0) ⊎ (asked_at s ≡ asking.cpu + 1)
    pub unreported : (id other : ℕ) (asking seat : View C) → IsLastAsking s.views id asking
        → get_elem? s.views other ≡ some seat
        → IsUnreported (asked_at s) asking seat

  -- the rules that hold at each moment: that of sections, and that of sleeping waiters
  pub record IsMoment (holds : List ℕ → Views C → Type 0) (cpus : ℕ)
      (s : State (Unit {0}) (View C)) : Type 0 where
    pub kept : IsKept holds cpus s
    pub awake : IsAwake s
