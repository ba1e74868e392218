-- A map after an entry replaced another one.
use Rattle.std.proofs.Common.{◌≡◌, ◌≢◌, ℕ, ◌<◌, inl, inr, ⊎_elim, true, List, Option, Some, length}
use Rattle.std.proofs.Common.{refl, sym, ap, ◌∙◌, subst, arith}
use mathlib.Core.Logic.{dite}
use native.Mathlib.Decide.{ℕ_discrete}
use Rattle.rcu_graph.specs.Absence.{next_of}
use Rattle.rcu_graph.specs.Graph.{word_to}
use Rattle.rcu_graph.specs.Nodes.{is_live, node_at, state_at}
use Rattle.rcu_graph.specs.Tended.{AreCollected, AreTended}
use Rattle.rcu_graph.specs.declared.known.Node.{Node}
use Rattle.rcu_graph.specs.declared.node_state.NodeState.TheVariants.{Free, Live, Unlinked}
use Rattle.rcu_graph.proofs.Counting.{live_inside}
use Rattle.rcu_graph.proofs.PutNodes.{few_put}
use Rattle.rcu_map.specs.Chains.{IsMap}
use Rattle.rcu_map.specs.Entries.{HasEntry, IsNodeOf, IsReplaced, entries_in}
use Rattle.rcu_map.specs.Keys.{GoesUp, IsWhole, bucket_in, key_in}
use Rattle.rcu_map.specs.Splices.{IsPlace}
use Rattle.rcu_graph.specs.Puts.{put}
use Rattle.rcu_map.proofs.Buckets.{entry_bucket}
use Rattle.rcu_map.proofs.Chains.{bucket_at, one_way}
use Rattle.rcu_map.proofs.Counted.{one_entry_more}
use Rattle.rcu_map.proofs.Gaps.{IsGap, IsPut, but, but_other, ordered_with, other_but}
use Rattle.rcu_graph.proofs.Puts.{not_free}
use Rattle.rcu_graph.proofs.States.{not_unlinked}
use Rattle.rcu_map.proofs.Gaps.{replacement_gap}
use Rattle.rcu_map.proofs.Held.{held_with, node_behind, still_there}
use Rattle.rcu_map.proofs.Removals.{had, no_ring, not_old, other_key, passes, previous_stays}
use Rattle.rcu_map.proofs.Stored.{is_put}
use Rattle.rcu_map.proofs.Collected.{AreHeld, is_unlinked, map_after, same_state}

module _ (holds : List ℕ → Type 0) (buckets seed width count : ℕ) (A : List Node)
    (m : IsMap holds buckets seed width count A) where
  -- an entry replaces an old one
  module _ (previous node old : ℕ) (words : List ℕ) (next : Option ℕ) (B : List Node)
      (some : 0 < key_in words) (place : IsPlace buckets seed (key_in words) A previous (Some old))
      (to : word_to next ≡ next_of A old) (inside : node < count) (free : state_at A node ≡ Free)
      (t : AreCollected buckets 1 (put A previous node words next) B) where
    abbrev S : List Node
    S = put A previous node words next

    low : node < length A
    low = let few = m.few in omega (arith, inside, few)

    apart : node ≢ previous
    apart is = not_free A node previous free place.live (sym is)

    p : IsPut A S previous node words (word_to next)
    p = is_put A previous (live_inside A previous place.live) (m.linked previous place.live) node
        words next low apart

    old_is : IsNodeOf buckets A (key_in words) old
    old_is = had holds buckets seed width count A m (key_in words) previous old some place

    old_is_not : old ≢ node
    old_is_not = not_free A node old free old_is.entry.live

    new_stays : but old node ≡ true
    new_stays = other_but old node (λ is. old_is_not (sym is))

    gap : IsGap buckets seed A (but old) previous (key_in words) (word_to next)
    gap = subst (λ (w : ℕ). IsGap buckets seed A (but old) previous (key_in words) w) (sym to)
        (replacement_gap holds buckets seed width count A m (key_in words) previous old place)

    bucket : bucket_at buckets seed A previous ≡ bucket_in buckets seed words
    bucket = place.bucket ∙ sym (entry_bucket buckets seed (key_in words) words some refl)

    held : AreHeld buckets S (but old)
    held = held_with holds buckets seed width count A m (but old) previous (word_to next)
        (passes holds buckets seed width count A m (key_in words) previous old some place
        (word_to next)
        to)
        S node words p free place.live
        (previous_stays holds buckets seed width count A m (key_in words) previous old some place)
        new_stays

    pub passed_out : state_at B old ≡ Unlinked
    passed_out = is_unlinked buckets S B t old (p.states old old_is_not ∙ old_is.entry.live)
        old_is.entry.behind
        (λ j on leads. dite (ℕ_discrete j node)
        (λ (is : j ≡ node). no_ring holds buckets seed width count A m (key_in words) previous old
        some
        place (sym to ∙ (sym p.onward ∙ (ap (λ (n : ℕ). next_of S n) (sym is) ∙ leads))))
        (λ (nj : j ≢ node). dite (ℕ_discrete j previous)
        (λ (is : j ≡ previous).
        let e : next_of S j ≡ next_of S previous = ap (λ (n : ℕ). next_of S n) is in
        let here = p.led in
        old_is_not (omega (arith, e, here, leads)))
        (λ (np : j ≢ previous). np (one_way holds buckets seed width count A m j previous old
        (sym (p.states j nj) ∙ on) place.live (sym (p.leads j nj np) ∙ leads) place.leads.0))))

    kept : (i : ℕ) → state_at B i ≡ Live → but old i ≡ true
    kept i live = other_but old i (λ is.
        not_unlinked (state_at B old) (ap (λ (n : ℕ). state_at B n) (sym is) ∙ live) passed_out)

    states : (i : ℕ) → i ≢ old → state_at B i ≡ state_at S i
    states i ne = same_state buckets S B t (but old) held i (other_but old i ne)

    live_here : state_at B node ≡ Live
    live_here = states node (λ is. old_is_not (sym is)) ∙ p.live

    words_here : (node_at B node).words ≡ words
    words_here = t.words_stay node ∙ p.is

    words_there : (i : ℕ) → i ≢ node → (node_at B i).words ≡ (node_at A i).words
    words_there i ne = t.words_stay i ∙ p.same i ne

    state_there : (i : ℕ) → i ≢ node → i ≢ old → state_at B i ≡ state_at A i
    state_there i ne apart_old = states i apart_old ∙ p.states i ne

    pub replaced_map : length B ≡ count
        → AreTended (IsWhole holds width) (λ _ from to. GoesUp buckets seed from to) buckets 1 B
        → IsMap holds buckets seed width count B
    replaced_map few tended = map_after buckets S B t (but old) holds seed width count
        (ordered_with holds buckets seed width count A m (but old) S previous node (word_to next)
        words
        gap p free bucket)
        kept few tended

    pub replaced_count : entries_in buckets B ≡ entries_in buckets A
    replaced_count =
        let many = few_put A previous (live_inside A previous place.live) node words next low
        apart in
        let more = one_entry_more buckets A S node many
        (node_behind holds buckets seed width count A m node free) low (ap is_live free)
        (ap is_live p.live) (λ j ne. ap is_live (p.states j ne)) in
        let less = one_entry_more buckets B S old (sym t.few) old_is.entry.behind
        (let bound = live_inside A old old_is.entry.live in
        let few = t.few in omega (arith, bound, few, many))
        (ap is_live passed_out) (ap is_live (p.states old old_is_not ∙ old_is.entry.live))
        (λ j ne. ap is_live (sym (states j ne))) in
        omega (arith, more, less)

    pub replaced : IsReplaced buckets A words B
    replaced = record {
      entries = λ w. (
        (λ h.
            let other = but_other old h.node (kept h.node h.entry.live) in
            dite (ℕ_discrete h.node node)
            (λ (is : h.node ≡ node).
            inr (sym h.is ∙ (ap (λ (n : ℕ). (node_at B n).words) is ∙ words_here)))
            (λ (ne : h.node ≢ node).
            let live = sym (state_there h.node ne other) ∙ h.entry.live in
            let is = sym (words_there h.node ne) ∙ h.is in
            inl (
              still_there buckets B A w h.node h.entry.behind live is,
              other_key holds buckets seed width count A m (key_in words) previous old some place w
                  h.node h.entry.behind live is other,
            ))),
        (λ s.
            ⊎_elim
            (λ (q : HasEntry buckets A w × (key_in w ≢ key_in words)).
            let ne = not_free A node q.0.node free q.0.entry.live in
            let other = not_old holds buckets seed width count A m (key_in words) previous old some
            place
            w q.0.node q.0.is q.1 in
            still_there buckets A B w q.0.node q.0.entry.behind
            (state_there q.0.node ne other ∙ q.0.entry.live) (words_there q.0.node ne ∙ q.0.is))
            (λ (is : w ≡ words). still_there buckets A B w node
            (node_behind holds buckets seed width count A m node free) live_here
            (words_here ∙ sym is))
            s),
      );
      node = node;
      was_free = record { inside = low; free = free };
      live = live_here;
      is = words_here;
      old = old;
      had = old_is;
      unlinked = passed_out;
      stays = words_there old old_is_not;
      others = λ i ne other. record { state = state_there i ne other; words = words_there i ne };
    }
