-- Several clients of one engine: the place of one of them in the engine's client, and the pair of
-- two.
use Rattle.std.specs.Prelude.{◌≡◌, ℕ, ◌+◌, ◌<◌, List, [], ◌∷◌, ◌++◌, Option, None, drop, length}
use Rattle.std.specs.Prelude.{map, slice_index, slice_set, take}
use mathlib.Core.Option.{some}
use lib.ListN.{get_elem?}
use Rattle.rcu_seq.specs.Numbers.{Number}
use Rattle.rcu_live.specs.Client.{ClientView, Views}
use Rattle.rcu_live.specs.declared.both_known.BothKnown.{BothKnown}

-- a part of a seat's knowledge: how to get and how to set it, and the start of the part's words, by
-- the start of those of the whole
pub record Lens (D C : Type 0) : Type 0 where
  pub get : D → C
  pub set : D → C → D
  pub begins : ℕ → D → ℕ

-- a part is the whole
abbrev pub whole : {C : Type 0} → Lens C C
whole = record { get = λ c. c; set = λ _ c. c; begins = λ base _. base }

-- a part of the first of two, whose words come first
abbrev pub in_first : {D E C : Type 0} → Lens D C → Lens (BothKnown D E) C
in_first inner = record {
  get = λ known. inner.get known.first;
  set = λ known c. record known { first = inner.set known.first c };
  begins = λ base known. inner.begins base known.first;
}

-- a part of the second, whose words are behind those of the first
abbrev pub in_second : {D E C : Type 0} → Lens D C → Lens (BothKnown E D) C
in_second inner = record {
  get = λ known. inner.get known.second;
  set = λ known c. record known { second = inner.set known.second c };
  begins = λ base known. inner.begins (base + known.split) known.second;
}

module _ {D C : Type 0} (lens : Lens D C) where
  -- the shown part of a seat, as a part sees it
  abbrev pub shown_part : ClientView D → ClientView C
  shown_part x = (x.0, x.1, lens.get x.2)

  -- getting returns the value that was set, and setting changes nothing else; the part idles and
  -- closes with the whole; and its words begin at a fixed distance behind those of the whole,
  -- whatever happens to the knowledge
  pub record IsLens (idle closed : C → C) (idle_whole closed_whole : D → D) : Type 0 where
    pub got : (d : D) (c : C) → lens.get (lens.set d c) ≡ c
    pub again : (d : D) (c e : C) → lens.set (lens.set d c) e ≡ lens.set d e
    pub as_it_is : (d : D) → lens.set d (lens.get d) ≡ d
    pub idles : (d : D) → lens.get (idle_whole d) ≡ idle (lens.get d)
    pub closes : (d : D) → lens.get (closed_whole d) ≡ closed (lens.get d)
    pub behind : (base : ℕ) (d : D) → lens.begins base d ≡ base + lens.begins 0 d
    pub stays : (base : ℕ) (d : D) (c : C) → lens.begins base (lens.set d c) ≡ lens.begins base d
    pub stays_idle : (base : ℕ) (d : D) → lens.begins base (idle_whole d) ≡ lens.begins base d
    pub stays_closed : (base : ℕ) (d : D)
        → lens.begins base (closed_whole d) ≡ lens.begins base d

  -- a client's rule, over its own words and its part of each seat, is a part of the rule of the
  -- whole, whose words from a base on are its own: a step that keeps the part's rule keeps that of
  -- the whole, and each seat shows where the part's words begin
  pub record IsPart (rule_of_all : List ℕ → Views D → Type 0) (rule : List ℕ → Views C → Type 0)
      (own : List ℕ → List ℕ) (base : ℕ) (idle : C → C) (idle_whole : D → D) : Type 0 where
    pub holds : (words : List ℕ) (xs : Views D)
        → rule_of_all words xs → rule (own words) (map shown_part xs)
    pub inside : (words : List ℕ) (xs : Views D) (p : ℕ)
        → rule_of_all words xs → p < length (own words) → base + p < length words
    pub placed : (words : List ℕ) (xs : Views D) (p : ℕ)
        → rule_of_all words xs → p < length (own words)
        → slice_index (own words) p ≡ slice_index words (base + p)
    -- the seat's knowledge about the part changes
    pub knows : (words : List ℕ) (xs : Views D) (id : ℕ) (cpu : Option ℕ)
        (section : Option Number) (d : D) (c : C)
        → rule_of_all words xs → get_elem? xs id ≡ some (cpu, section, d)
        → rule (own words) (slice_set (map shown_part xs) id (cpu, section, c))
        → rule_of_all words (slice_set xs id (cpu, section, lens.set d c))
    -- the same, and a word of the part changes
    pub stores : (words : List ℕ) (xs : Views D) (id p x : ℕ) (cpu : Option ℕ)
        (section : Option Number) (d : D) (c : C)
        → rule_of_all words xs → get_elem? xs id ≡ some (cpu, section, d)
        → p < length (own words)
        → rule (slice_set (own words) p x) (slice_set (map shown_part xs) id (cpu, section, c))
        → rule_of_all (slice_set words (base + p) x)
        (slice_set xs id (cpu, section, lens.set d c))
    -- the knowledge about the part of a seat of no processor is handed over to a new seat, and the
    -- rest of its knowledge stays
    pub hands : (words : List ℕ) (xs : Views D) (id : ℕ) (d : D)
        → rule_of_all words xs → get_elem? xs id ≡ some (None, None, d)
        → rule_of_all words (slice_set xs id (None, None, lens.set d (idle (lens.get d)))
        ++ (None, None, lens.set (idle_whole d) (lens.get d)) ∷ [])
    pub told : (words : List ℕ) (xs : Views D) (id : ℕ) (x : ClientView D)
        → rule_of_all words xs → get_elem? xs id ≡ some x → lens.begins 0 x.2 ≡ base

  -- a step has this relation on the part, and leaves the rest of the knowledge
  abbrev pub of_part : (C → C → Type 0) → D → D → Type 0
  of_part tells was now = (now ≡ lens.set was (lens.get now)) × tells (lens.get was) (lens.get now)

  -- the meaning of a part's step on its word, as a step of the whole
  abbrev pub word_of_part : (ℕ → C → ℕ → C → Type 0) → ℕ → D → ℕ → D → Type 0
  word_of_part tells place was x now =
      of_part (λ c e. (p : ℕ) → place ≡ lens.begins 0 was + p → tells p c x e) was now

  -- the meaning of its load of the number
  abbrev pub number_of_part : (C → Number → C → Type 0) → D → Number → D → Type 0
  number_of_part tells was n now = of_part (λ c e. tells c n e) was now

-- the client has a word at this place whenever its rule holds
abbrev pub IsWordOf : {C : Type 0} → (List ℕ → Views C → Type 0) → ℕ → Type 0
IsWordOf {C} rule p = (words : List ℕ) (xs : Views C) → rule words xs → p < length words

-- the shown part of a seat, as the first of two sees it, and as the second does
abbrev pub shown_first : {C D : Type 0} → ClientView (BothKnown C D) → ClientView C
shown_first x = shown_part (in_first whole) x

abbrev pub shown_second : {C D : Type 0} → ClientView (BothKnown C D) → ClientView D
shown_second x = shown_part (in_second whole) x

-- the rule of a pair: one rule over this number of first words, one over those behind them; and
-- each seat knows the number of first words
pub record HoldsBoth {C D : Type 0} (first : List ℕ → Views C → Type 0)
    (second : List ℕ → Views D → Type 0) (split : ℕ) (words : List ℕ)
    (xs : Views (BothKnown C D)) : Type 0 where
  pub one : first (take split words) (map shown_first xs)
  pub other : second (drop split words) (map shown_second xs)
  pub told : (id : ℕ) (x : ClientView (BothKnown C D))
      → get_elem? xs id ≡ some x → x.2.split ≡ split

-- the knowledge about each becomes this
abbrev pub of_both : {C D : Type 0} → (C → C) → (D → D) → BothKnown C D → BothKnown C D
of_both first second known = record {
  first = first known.first;
  second = second known.second;
  split = known.split;
}
