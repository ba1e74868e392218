-- A map after an entry was removed.
use Rattle.std.proofs.Common.{◌≡◌, ◌≢◌, ℕ, suc, ◌+◌, ◌<◌, ◌≤◌, ◌⊎◌, inl, inr, true, List, Option}
use Rattle.std.proofs.Common.{Some, length, sym, ap, ◌∙◌, subst, arith}
use mathlib.Core.Logic.{dite}
use native.Mathlib.Decide.{ℕ_discrete}
use Rattle.rcu_graph.specs.Absence.{key_at, next_of}
use Rattle.rcu_graph.specs.Graph.{word_to}
use Rattle.rcu_graph.specs.Nodes.{is_live, node_at, state_at}
use Rattle.rcu_graph.specs.Tended.{AreCollected, AreTended, relinked}
use Rattle.rcu_graph.specs.declared.known.Node.{Node}
use Rattle.rcu_graph.specs.declared.node_state.NodeState.TheVariants.{Live, Unlinked}
use Rattle.rcu_graph.proofs.Counting.{live_inside}
use Rattle.rcu_graph.proofs.States.{not_unlinked}
use Rattle.rcu_map.specs.Chains.{IsMap}
use Rattle.rcu_map.specs.Entries.{IsNodeOf, IsRemoved, entries_in}
use Rattle.rcu_map.specs.Keys.{GoesUp, IsWhole, key_in}
use Rattle.rcu_map.specs.Splices.{IsPlace}
use Rattle.rcu_map.proofs.Chains.{led, one_entry, one_way, there}
use Rattle.rcu_map.proofs.Counted.{one_entry_more}
use Rattle.rcu_map.proofs.Gaps.{IsPassed, but, but_other, ordered_past, other_but}
use Rattle.rcu_map.proofs.Held.{held_past, still_there}
use Rattle.rcu_map.proofs.Stored.{is_passed}
use Rattle.rcu_map.proofs.Collected.{AreHeld, is_unlinked, map_after, same_state}

module _ (holds : List ℕ → Type 0) (buckets seed width count : ℕ) (A : List Node)
    (m : IsMap holds buckets seed width count A) where
  -- of an old entry, which is passed
  module _ (key previous old : ℕ) (some : 0 < key)
      (place : IsPlace buckets seed key A previous (Some old)) where
    pub had : IsNodeOf buckets A key old
    had = there holds buckets seed width count A m key previous some old place

    pub previous_stays : but old previous ≡ true
    previous_stays = other_but old previous (λ is.
        let less = place.less in let has = had.is in
        let e : key_at A previous ≡ key_at A old = ap (λ (n : ℕ). key_at A n) is in
        omega (arith, less, has, e))

    -- the old node does not lead to itself
    pub no_ring : next_of A old ≡ suc old → ⊥
    no_ring leads =
        let up = (led holds buckets seed width count A m old old had.entry.live leads).1.up in
        omega (arith, up)

    -- a node that led to one that stays still leads to it
    pub passes : (word : ℕ)
        → word ≡ next_of A old
        → (i j : ℕ) → state_at A j ≡ Live
        → next_of A j ≡ suc i
        → but old i ≡ true
        → (word ≡ suc i) ⊎ ((j ≢ previous) × (but old j ≡ true))
    passes word to i j on leads kept = dite (ℕ_discrete j old)
        (λ (is : j ≡ old). inl (to ∙ (ap (λ (n : ℕ). next_of A n) (sym is) ∙ leads)))
        (λ (ne : j ≢ old). inr (
          λ (is : j ≡ previous).
              let here = place.leads.0 in
              let e : next_of A j ≡ next_of A previous = ap (λ (n : ℕ). next_of A n) is in
              but_other old i kept (omega (arith, here, e, leads)),
          other_but old j ne,
        ))

    -- an entry of another node has another key
    pub other_key : (w : List ℕ) (i : ℕ)
        → buckets ≤ i → state_at A i ≡ Live → (node_at A i).words ≡ w → i ≢ old → key_in w ≢ key
    other_key w i past live is ne e = ne
        (one_entry holds buckets seed width count A m key i old some
        (record { entry = record { behind = past; live = live }; is = ap key_in is ∙ e }) had)

    pub not_old : (w : List ℕ) (i : ℕ) → (node_at A i).words ≡ w → key_in w ≢ key → i ≢ old
    not_old w i is ne same = ne (ap key_in (sym is) ∙ (ap (λ (n : ℕ). key_at A n) same ∙ had.is))

    -- it is taken out
    module _ (next : Option ℕ) (B : List Node) (to : word_to next ≡ next_of A old)
        (t : AreCollected buckets 1 (relinked A previous 0 next) B) where
      abbrev S : List Node
      S = relinked A previous 0 next

      p : IsPassed A S previous (word_to next)
      p = is_passed A previous (live_inside A previous place.live) (m.linked previous place.live)
          next

      held : AreHeld buckets S (but old)
      held = held_past holds buckets seed width count A m (but old) previous (word_to next)
          (passes (word_to next) to) S p place.live previous_stays

      pub out : state_at B old ≡ Unlinked
      out = is_unlinked buckets S B t old (p.states old ∙ had.entry.live) had.entry.behind
          (λ j on leads. dite (ℕ_discrete j previous)
          (λ (is : j ≡ previous).
          no_ring (sym to ∙ (sym p.led ∙ (ap (λ (n : ℕ). next_of S n) (sym is) ∙ leads))))
          (λ (ne : j ≢ previous). ne (one_way holds buckets seed width count A m j previous old
          (sym (p.states j) ∙ on) place.live (sym (p.leads j ne) ∙ leads) place.leads.0)))

      kept : (i : ℕ) → state_at B i ≡ Live → but old i ≡ true
      kept i live = other_but old i
          (λ is. not_unlinked (state_at B old) (ap (λ (n : ℕ). state_at B n) (sym is) ∙ live) out)

      words_same : (i : ℕ) → (node_at B i).words ≡ (node_at A i).words
      words_same i = t.words_stay i ∙ p.same i

      state_there : (i : ℕ) → i ≢ old → state_at B i ≡ state_at A i
      state_there i ne = same_state buckets S B t (but old) held i (other_but old i ne) ∙ p.states i

      pub removed_map : length B ≡ count
          → AreTended (IsWhole holds width) (λ _ from to. GoesUp buckets seed from to) buckets 1 B
          → IsMap holds buckets seed width count B
      removed_map few tended = map_after buckets S B t (but old) holds seed width count
          (ordered_past holds buckets seed width count A m key previous old place S
          (subst (λ (w : ℕ). IsPassed A S previous w) to p)) kept few tended

      pub removed_count : length B ≡ count → entries_in buckets A ≡ entries_in buckets B + 1
      removed_count few = one_entry_more buckets B A old (m.few ∙ sym few) had.entry.behind
          (let bound = live_inside A old had.entry.live in
          let many = m.few in omega (arith, bound, many, few))
          (ap is_live out) (ap is_live had.entry.live) (λ j ne. ap is_live (sym (state_there j ne)))

      pub removed : IsRemoved buckets A key B
      removed = record {
        entries = λ w. (
          (λ h.
              let ne = but_other old h.node (kept h.node h.entry.live) in
              let live = sym (state_there h.node ne) ∙ h.entry.live in
              let is = sym (words_same h.node) ∙ h.is in (
                still_there buckets B A w h.node h.entry.behind live is,
                other_key w h.node h.entry.behind live is ne,
              )),
          (λ q.
              let ne = not_old w q.0.node q.0.is q.1 in
              still_there buckets A B w q.0.node q.0.entry.behind
              (state_there q.0.node ne ∙ q.0.entry.live) (words_same q.0.node ∙ q.0.is)),
        );
        old = old;
        had = had;
        unlinked = out;
        stays = words_same old;
        others = λ i ne. record { state = state_there i ne; words = words_same i };
      }
