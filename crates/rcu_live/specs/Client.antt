-- The parts of the seats that the engine shows to a client, and the invariant that the client's
-- rule has to keep.
use Rattle.std.specs.Prelude.{◌≡◌, ℕ, ◌+◌, true, List, [], ◌∷◌, ◌++◌, Option, Some, None, length}
use Rattle.std.specs.Prelude.{slice_index, slice_set}
use mathlib.Core.Option.{some}
use lib.ListN.{get_elem?}
use Rattle.rcu_seq.specs.Numbers.{Number}
use Rattle.rcu_live.specs.Numbers.{is_open_at}

-- the shown part of a seat: its
abbrev pub ClientView : Type 0 → Type 0
ClientView C = Option ℕ × Option Number × C

-- the shown parts of all seats
abbrev pub Views : Type 0 → Type 0
Views C = List (ClientView C)

-- the law of a client: its rule is kept when a section opens, when one closes, when a seat deals
-- another, and when the knowledge of a seat without a section is handed over to a new seat
pub record IsStable {C : Type 0} (holds : List ℕ → Views C → Type 0)
    (idle closed : C → C) : Type 0 where
  pub opens : (words : List ℕ) (xs : Views C) (id : ℕ) (number : Number)
      (cpu : Option ℕ) (c : C)
      → holds words xs
      → get_elem? xs id ≡ some (cpu, None, c)
      → holds words (slice_set xs id (cpu, Some number, c))
  pub closes : (words : List ℕ) (xs : Views C) (id : ℕ) (cpu : Option ℕ)
      (section : Option Number) (c : C)
      → holds words xs
      → get_elem? xs id ≡ some (cpu, section, c)
      → holds words (slice_set xs id (cpu, None, closed c))
  pub deals : (words : List ℕ) (xs : Views C) (id : ℕ) (who : Option ℕ)
      (section : Option Number) (c : C) (cpu : Option ℕ)
      → holds words xs
      → get_elem? xs id ≡ some (who, section, c)
      → holds words (xs ++ (cpu, None, idle c) ∷ [])
  pub hands : (words : List ℕ) (xs : Views C) (id : ℕ) (c : C)
      → holds words xs → get_elem? xs id ≡ some (None, None, c)
      → holds words (slice_set xs id (None, None, idle c) ++ (None, None, c) ∷ [])

-- at this number: each open section may be open at it
abbrev pub AreOpen : {C : Type 0} → Number → Views C → Type 0
AreOpen {C} number xs =
    (id : ℕ) (at : Number) (cpu : Option ℕ) (c : C) → get_elem? xs id ≡ some (cpu, Some at, c)
    → is_open_at number at ≡ true

-- a processor has one seat
abbrev pub AreLone : {C : Type 0} → Views C → Type 0
AreLone {C} xs = (i j cpu : ℕ) (o p : Option Number) (c d : C)
    → get_elem? xs i ≡ some (Some cpu, o, c) → get_elem? xs j ≡ some (Some cpu, p, d) → i ≡ j

module _ {C : Type 0} (holds : List ℕ → Views C → Type 0) (cpu section : Option ℕ)
    (c : C) where
  -- a client's step on its word p, which becomes `change` of its value: whenever the client's rule
  -- holds, the seat has a new view that keeps it, and the meaning of the step holds for the word
  -- found and that view
  abbrev pub AllowsWord : ℕ → (ℕ → ℕ) → (ℕ → C → Type 0) → Type 0
  AllowsWord p change tells =
      (number : Number) (words : List ℕ) (xs : Views C) (id : ℕ)
      → holds words xs
      → AreOpen number xs
      → AreLone xs
      → get_elem? xs id ≡ some (cpu, section, c)
      → (after : C)
      × holds (slice_set words p (change (slice_index words p)))
      (slice_set xs id (cpu, section, after))
      × tells (slice_index words p) after

  -- the same by the word's index in the table, if the client's words begin at this base
  abbrev pub AllowsAt : ℕ → ℕ → (ℕ → ℕ) → (ℕ → ℕ → C → Type 0) → Type 0
  AllowsAt base index change tells =
      (word : ℕ) × (index ≡ base + word) × AllowsWord word change (tells word)

  -- a client's load of the number
  abbrev pub AllowsNumber : (Number → C → Type 0) → Type 0
  AllowsNumber tells =
      (number : Number) (words : List ℕ) (xs : Views C) (id : ℕ)
      → holds words xs
      → AreOpen number xs
      → AreLone xs
      → get_elem? xs id ≡ some (cpu, section, c)
      → (after : C) × holds words (slice_set xs id (cpu, section, after)) × tells number after

-- a client's first words were added behind others: this number of words, for which its rule holds
-- if the first seat has this knowledge
pub record HasAdded {C : Type 0} (holds : List ℕ → Views C → Type 0) (first : C) (size : ℕ)
    (old new : List ℕ) : Type 0 where
  pub own : List ℕ
  pub added : new ≡ old ++ own
  pub many : length own ≡ size
  pub kept : holds own ((None, None, first) ∷ [])

-- a client with no rule keeps the law
pub no_client_is_stable : IsStable {C = Unit {0}} (λ _ _. Unit {0}) (λ c. c)
    (λ c. c)
no_client_is_stable = record {
  opens = λ words xs id number cpu c kept at. tt;
  closes = λ words xs id cpu section c kept at. tt;
  deals = λ words xs id who section c cpu kept at. tt;
  hands = λ words xs id c kept at. tt;
}
