-- The rule of the nodes is kept when sections open and close, when a seat is dealt, and when a
-- seat's knowledge is handed over.
use Rattle.std.specs.Prelude.{◌≡◌, ◌≢◌, ℕ, List, [], ◌∷◌, ◌++◌, length, Option, Some, None}
use Rattle.std.specs.Prelude.{slice_set}
use Rattle.std.proofs.Common.{refl, sym, ◌∙◌, subst, ⊎_elim}
use mathlib.Core.Option.{some}
use lib.ListN.{get_elem?}
use Rattle.rcu_seq.specs.Numbers.{Number}
use Rattle.rcu_live.specs.Client.{IsStable, Views, ClientView}
use Rattle.rcu_live.proofs.ClientRows.{reseat}
use Rattle.rcu_live.proofs.Deals.{at_end}
use Rattle.rcu_graph.specs.Rule.{IsKept, Knows, Reading}
use Rattle.rcu_graph.specs.Nodes.{closed}
use Rattle.rcu_graph.specs.declared.known.Known.{Known}
use Rattle.rcu_graph.specs.declared.known.Known.TheVariants.{Idle, Owner, Reader, Writer}
use Rattle.rcu_graph.specs.declared.known.Node.{Node}

abbrev IsNone : Option Number → Type 0
IsNone None = Unit {0}
IsNone (Some number) = ⊥

no_section : (number : Number) → None ≡ Some number → ⊥
no_section number e = subst IsNone e tt

module _ (first : ℕ → List ℕ) (roots links width count : ℕ) (nodes : List Node) (latest : ℕ) where
  -- the knowledge of a seat among those shown
  abbrev pub SeatKnows : ℕ → ℕ → ClientView Known → Type 0
  SeatKnows writer id x = Knows first roots links width count nodes latest writer id x.1 x.2

  knows_opened : (writer id : ℕ) (number : Number) (known : Known)
      → Knows first roots links width count nodes latest writer id None known
      → Knows first roots links width count nodes latest writer id (Some number) known
  knows_opened writer id number Idle k = tt
  knows_opened writer id number Owner k = k
  knows_opened writer id number (Reader hops) k = λ i words held.
      let r : Reading nodes None i words = k i words held in absurd (no_section r.opened r.is_open)
  knows_opened writer id number (Writer s known stored) k = k

  knows_closed : (writer id : ℕ) (section : Option Number) (known : Known)
      → Knows first roots links width count nodes latest writer id section known
      → Knows first roots links width count nodes latest writer id None (closed known)
  knows_closed writer id section Idle k = tt
  knows_closed writer id section Owner k = k
  knows_closed writer id section (Reader hops) k = tt
  knows_closed writer id section (Writer s known stored) k = k

  -- the nodes' writer after they are handed over
  abbrev pub writer_after : ℕ → ℕ → Known → ℕ
  writer_after writer new Idle = writer
  writer_after writer new Owner = new
  writer_after writer new (Reader hops) = writer
  writer_after writer new (Writer s known stored) = new

  -- the seat to which it is handed over knows it
  knows_handed : (writer id new : ℕ) (known : Known)
      → Knows first roots links width count nodes latest writer id None known
      → Knows first roots links width count nodes latest (writer_after writer new known) new None
      known
  knows_handed writer id new Idle k = tt
  knows_handed writer id new Owner k = (k.0, k.1, refl)
  knows_handed writer id new (Reader hops) k = k
  knows_handed writer id new (Writer s known stored) k = (k.0, k.1, refl)

  -- another seat has been their writer only if it is not the one that hands them over
  still_keeps : (writer id new j : ℕ) (known : Known)
      → Knows first roots links width count nodes latest writer id None known → j ≢ id → writer ≡ j
      → writer_after writer new known ≡ j
  still_keeps writer id new j Idle k apart e = e
  still_keeps writer id new j Owner k apart e = absurd (apart (sym e ∙ k.2))
  still_keeps writer id new j (Reader hops) k apart e = e
  still_keeps writer id new j (Writer s known stored) k apart e = absurd (apart (sym e ∙ k.2))

  knows_still : (writer id new j : ℕ) (known : Known) (section : Option Number) (other : Known)
      → Knows first roots links width count nodes latest writer id None known
      → j ≢ id
      → Knows first roots links width count nodes latest writer j section other
      → Knows first roots links width count nodes latest (writer_after writer new known) j section
      other
  knows_still writer id new j known section Idle mine apart k = tt
  knows_still writer id new j known section Owner mine apart k =
      (k.0, k.1, still_keeps writer id new j known mine apart k.2)
  knows_still writer id new j known section (Reader hops) mine apart k = k
  knows_still writer id new j known section (Writer s all stored) mine apart k =
      (k.0, k.1, still_keeps writer id new j known mine apart k.2)

module _ (fits : List ℕ → Type 0) (joins : ℕ → List ℕ → List ℕ → Type 0) (first : ℕ → List ℕ)
    (roots links width count : ℕ) where
  -- the rule is kept if the seats' knowledge is true
  pub reseated : (words : List ℕ) (xs ys : Views Known)
      (h : IsKept fits joins first roots links width count words xs) (writer : ℕ)
      → ((j : ℕ) (y : ClientView Known) → get_elem? ys j ≡ some y → SeatKnows first roots links
      width count h.nodes h.latest writer j y)
      → IsKept fits joins first roots links width count words ys
  reseated words xs ys h writer seats = record {
    nodes = h.nodes;
    latest = h.latest;
    writer = writer;
    kept = h.kept;
    seats = λ id cpu section known at. seats id (cpu, section, known) at;
  }

  -- one seat changes
  pub one_changes : (words : List ℕ) (xs : Views Known)
      (h : IsKept fits joins first roots links width count words xs) (id : ℕ)
      (x : ClientView Known)
      → SeatKnows first roots links width count h.nodes h.latest h.writer id x
      → IsKept fits joins first roots links width count words (slice_set xs id x)
  one_changes words xs h id x mine = reseated words xs (slice_set xs id x) h h.writer
      (reseat (SeatKnows first roots links width count h.nodes h.latest h.writer) xs id x mine
      (λ j y apart at. h.seats j y.0 y.1 y.2 at))

  handed : (words : List ℕ) (xs : Views Known) (id : ℕ) (known : Known)
      (h : IsKept fits joins first roots links width count words xs)
      → get_elem? xs id ≡ some (None, None, known)
      → IsKept fits joins first roots links width count words
      (slice_set xs id (None, None, Idle) ++ (None, None, known) ∷ [])
  handed words xs id known h at =
      let left : Views Known = slice_set xs id (None, None, Idle) in
      let new : ℕ = length left in
      let mine = h.seats id None None known at in
      let writer : ℕ =
      writer_after first roots links width count h.nodes h.latest h.writer new known in
      let front : (j : ℕ) (y : ClientView Known) → get_elem? left j ≡ some y
      → SeatKnows first roots links width count h.nodes h.latest writer j y =
      reseat (SeatKnows first roots links width count h.nodes h.latest writer) xs id
      (None, None, Idle) tt
      (λ j y apart e. knows_still first roots links width count h.nodes h.latest h.writer id new j
      known y.1 y.2 mine apart (h.seats j y.0 y.1 y.2 e)) in
      reseated words xs (left ++ (None, None, known) ∷ []) h writer
      (λ j y e. ⊎_elim (λ (old : get_elem? left j ≡ some y). front j y old)
      (λ (last : (j ≡ new) × ((None, None, known) ≡ y)).
      subst (λ (z : ℕ × ClientView Known).
      SeatKnows first roots links width count h.nodes h.latest writer z.0 z.1)
      (λ i. (sym last.0 i, last.1 i))
      (knows_handed first roots links width count h.nodes h.latest h.writer id new known mine))
      (at_end left (None, None, known) y j e))

  pub is_stable : IsStable (IsKept fits joins first roots links width count) (λ _. Idle) closed
  is_stable = record {
    opens = λ words xs id number cpu known h at.
        one_changes words xs h id (cpu, Some number, known)
        (knows_opened first roots links width count h.nodes h.latest h.writer id number known
        (h.seats id cpu None known at));
    closes = λ words xs id cpu section known h at.
        one_changes words xs h id (cpu, None, closed known)
        (knows_closed first roots links width count h.nodes h.latest h.writer id section known
        (h.seats id cpu section known at));
    deals = λ words xs id who section known cpu h at.
        reseated words xs (xs ++ (cpu, None, Idle) ∷ []) h h.writer
        (λ j y e. ⊎_elim (λ (old : get_elem? xs j ≡ some y). h.seats j y.0 y.1 y.2 old)
        (λ (last : (j ≡ length xs) × ((cpu, None, Idle) ≡ y)).
        subst (λ (z : ClientView Known).
        SeatKnows first roots links width count h.nodes h.latest h.writer j z)
        last.1 tt)
        (at_end xs (cpu, None, Idle) y j e));
    hands = λ words xs id known h at. handed words xs id known h at;
  }
