-- The rule of the shared words: an invariant of them and of all seats between any two atomic steps.
use Rattle.std.specs.Prelude.{◌≡◌, ℕ, ◌+◌, ◌%◌, ◌<◌, ◌≤◌, ◌==◌, ◌&&◌, ◌||◌, Bool, true, false}
use Rattle.std.specs.Prelude.{List}
use Rattle.std.specs.Prelude.{[]}
use Rattle.std.specs.Prelude.{◌∷◌, Some, drop, length, map, slice_index}
use mathlib.Core.Option.{some}
use lib.ListN.{get_elem?}
use Rattle.atomic_table.specs.Table.{State}
use Rattle.rcu_seq.specs.Numbers.{Number, is_running}
use Rattle.rcu_node.specs.Words.{has_bit}
use Rattle.rcu_live.specs.Client.{Views}
use Rattle.rcu_live.specs.Numbers.{is_number_word, is_own_word, is_past, may_open}
use Rattle.rcu_live.specs.Numbers.{reports_quiescence}
use Rattle.rcu_live.specs.View.{client_view}
use Rattle.rcu_live.specs.Words.{base_of, first_own_word, own_word_index, mask_index}
use Rattle.rcu_live.specs.declared.view.Role.TheVariants.{Cpu, Engine}
use Rattle.rcu_live.specs.declared.view.View.{View}

-- a processor is cleared in grace period t: some load since its begin found an own word that
-- reports it
abbrev pub is_cleared : Number → ℕ → List (ℕ × ℕ) → Bool
is_cleared t cpu [] = false
is_cleared t cpu (find ∷ earlier) =
    (find.0 == own_word_index cpu && reports_quiescence t find.1) || is_cleared t cpu earlier

-- each of this number of processors is cleared in grace period t
abbrev pub AreCleared : ℕ → Number → List (ℕ × ℕ) → Type 0
AreCleared cpus t own_word_loads = (cpu : ℕ) → cpu < cpus → is_cleared t cpu own_word_loads ≡ true

module _ {C : Type 0} where
  -- the invariant of a processor's seat, at the number n, the processor's own word, and the words
  -- that the engine found
  pub record IsSound (n : Number) (word : ℕ) (own_word_loads : List (ℕ × ℕ))
      (v : View C) : Type 0 where
    -- the own word is the one that the seat stored: at most one more than the number that it saw,
    -- or the idle word; that of processor 0 is never 0
    pub own_word : word ≡ v.own_word
    pub bounded : is_own_word v.seen v.own_word ≡ true
    pub boot : v.cpu ≡ 0 → 0 < v.own_word
    -- if a section is open: the processor may have one, so it is not idle; the section began
    -- between the own word less one and the number that the seat saw, and no full grace period
    -- passed since
    pub online : (at : Number) → v.section ≡ Some at → may_open v.own_word ≡ true
    pub from_own_word : (at : Number) → v.section ≡ Some at → v.own_word ≤ at + 1
    pub to_seen : (at : Number) → v.section ≡ Some at → at ≤ v.seen
    pub current : (at : Number) → v.section ≡ Some at → is_past at n ≡ false
    -- while a grace period runs, a cleared processor has no section older than it
    pub cleared : (at : Number)
        → v.section ≡ Some at → is_running n ≡ true → is_cleared n v.cpu own_word_loads ≡ true
        → n ≤ at

  -- the invariant of the engine's seat: it has the processors without a seat, and their words are
  -- as at the start
  abbrev pub AreUndealt : ℕ → List ℕ → (ℕ → ℕ) → ℕ → View C → Type 0
  AreUndealt cpus words owner id v =
      (cpu : ℕ) → v.cpu ≤ cpu → cpu < cpus
      → (owner cpu ≡ id) × (slice_index words (own_word_index cpu) ≡ first_own_word cpu)

  -- the invariant of the seat id, given the seat of each processor, the engine's seat, and the
  -- words that the engine found
  pub record Fits (cpus : ℕ) (words : List ℕ) (owner : ℕ → ℕ) (engine : ℕ)
      (own_word_loads : List (ℕ × ℕ)) (id : ℕ) (v : View C) : Type 0 where
    pub seen : v.seen ≤ slice_index words 0
    pub base : v.base ≡ base_of cpus
    pub inside : v.role ≡ Cpu → v.cpu < cpus
    pub own : v.role ≡ Cpu → owner v.cpu ≡ id
    pub sound : v.role ≡ Cpu
        → IsSound (slice_index words 0) (slice_index words (own_word_index v.cpu)) own_word_loads v
    pub announced : v.role ≡ Cpu → v.announced ≡ true
        → has_bit (slice_index words (mask_index v.cpu)) (v.cpu % 64) ≡ true
    pub lone : v.role ≡ Engine → engine ≡ id
    pub number : v.role ≡ Engine → v.seen ≡ slice_index words 0
    pub found : v.role ≡ Engine → v.own_word_loads ≡ own_word_loads
    pub undealt : v.role ≡ Engine → AreUndealt cpus words owner id v

  -- the rule. The table has at least the engine's words, and those behind them are the client's
  pub record IsKept (holds : List ℕ → Views C → Type 0) (cpus : ℕ)
      (s : State (Unit {0}) (View C)) : Type 0 where
    pub room : base_of cpus ≤ length s.words
    pub number : is_number_word (slice_index s.words 0) ≡ true
    pub boot : 0 < slice_index s.words (own_word_index 0)
    pub absent : (cpu : ℕ) → cpu < cpus
        → has_bit (slice_index s.words (mask_index cpu)) (cpu % 64) ≡ false
        → slice_index s.words (own_word_index cpu) ≡ 0
    pub owner : ℕ → ℕ
    pub engine : ℕ
    pub own_word_loads : List (ℕ × ℕ)
    pub fits : (id : ℕ) (v : View C) → get_elem? s.views id ≡ some v
        → Fits cpus s.words owner engine own_word_loads id v
    pub client : holds (drop (base_of cpus) s.words) (map client_view s.views)
