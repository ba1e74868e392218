-- A map after an entry was put in.
use Rattle.std.proofs.Common.{◌≡◌, ◌≢◌, ℕ, ◌+◌, ◌<◌, inl, inr, ⊎_elim, List, Option, None, length}
use Rattle.std.proofs.Common.{refl, sym, ap, ◌∙◌, subst, arith}
use mathlib.Core.Logic.{dite}
use native.Mathlib.Decide.{ℕ_discrete}
use Rattle.rcu_graph.specs.Absence.{next_of}
use Rattle.rcu_graph.specs.Graph.{word_to}
use Rattle.rcu_graph.specs.Nodes.{is_live, node_at, state_at}
use Rattle.rcu_graph.specs.Tended.{AreCollected, AreTended}
use Rattle.rcu_graph.specs.declared.known.Node.{Node}
use Rattle.rcu_graph.specs.declared.node_state.NodeState.TheVariants.{Free}
use Rattle.rcu_graph.proofs.Counting.{live_inside}
use Rattle.rcu_graph.proofs.PutNodes.{few_put}
use Rattle.rcu_map.specs.Chains.{IsMap}
use Rattle.rcu_map.specs.Entries.{HasEntry, IsInserted, entries_in}
use Rattle.rcu_map.specs.Keys.{GoesUp, IsWhole, bucket_in, key_in}
use Rattle.rcu_map.specs.Splices.{IsPlace}
use Rattle.rcu_graph.specs.Puts.{put}
use Rattle.rcu_map.proofs.Buckets.{entry_bucket}
use Rattle.rcu_map.proofs.Chains.{bucket_at}
use Rattle.rcu_map.proofs.Counted.{one_entry_more}
use Rattle.rcu_map.proofs.Gaps.{IsGap, IsPut, all, insertion_gap, ordered_with}
use Rattle.rcu_graph.proofs.Puts.{not_free}
use Rattle.rcu_map.proofs.Held.{held_with, node_behind, still_there}
use Rattle.rcu_map.proofs.Stored.{is_put}
use Rattle.rcu_map.proofs.Collected.{AreHeld, map_after, same_state}

module _ (holds : List ℕ → Type 0) (buckets seed width count : ℕ) (A : List Node)
    (m : IsMap holds buckets seed width count A) where
  -- an entry is put in
  module _ (previous node : ℕ) (words : List ℕ) (next : Option ℕ) (B : List Node)
      (some : 0 < key_in words) (place : IsPlace buckets seed (key_in words) A previous None)
      (to : word_to next ≡ next_of A previous) (inside : node < count)
      (free : state_at A node ≡ Free)
      (t : AreCollected buckets 1 (put A previous node words next) B) where
    abbrev S : List Node
    S = put A previous node words next

    low : node < length A
    low = let few = m.few in omega (arith, inside, few)

    apart : node ≢ previous
    apart is = not_free A node previous free place.live (sym is)

    p : IsPut A S previous node words (word_to next)
    p = is_put A previous (live_inside A previous place.live) (m.linked previous place.live) node
        words next low apart

    gap : IsGap buckets seed A all previous (key_in words) (word_to next)
    gap = subst (λ (w : ℕ). IsGap buckets seed A all previous (key_in words) w) (sym to)
        (insertion_gap holds buckets seed width count A m (key_in words) previous place)

    bucket : bucket_at buckets seed A previous ≡ bucket_in buckets seed words
    bucket = place.bucket ∙ sym (entry_bucket buckets seed (key_in words) words some refl)

    held : AreHeld buckets S all
    held = held_with holds buckets seed width count A m all previous (word_to next)
        (λ i j on leads kept. dite (ℕ_discrete j previous)
        (λ (is : j ≡ previous). inl (to ∙ (ap (λ (n : ℕ). next_of A n) (sym is) ∙ leads)))
        (λ (ne : j ≢ previous). inr (ne, refl)))
        S node words p free place.live refl refl

    states : (i : ℕ) → state_at B i ≡ state_at S i
    states i = same_state buckets S B t all held i refl

    words_here : (node_at B node).words ≡ words
    words_here = t.words_stay node ∙ p.is

    words_there : (i : ℕ) → i ≢ node → (node_at B i).words ≡ (node_at A i).words
    words_there i ne = t.words_stay i ∙ p.same i ne

    state_there : (i : ℕ) → i ≢ node → state_at B i ≡ state_at A i
    state_there i ne = states i ∙ p.states i ne

    pub inserted_map : length B ≡ count
        → AreTended (IsWhole holds width) (λ _ from to. GoesUp buckets seed from to) buckets 1 B
        → IsMap holds buckets seed width count B
    inserted_map few tended = map_after buckets S B t all holds seed width count
        (ordered_with holds buckets seed width count A m all S previous node (word_to next) words
        gap p
        free bucket)
        (λ i live. refl) few tended

    pub inserted_count : entries_in buckets B ≡ entries_in buckets A + 1
    inserted_count =
        one_entry_more buckets A B node
        (t.few
        ∙ few_put A previous (live_inside A previous place.live) node words next low apart)
        (node_behind holds buckets seed width count A m node free) low (ap is_live free)
        (ap is_live (states node ∙ p.live)) (λ j ne. ap is_live (state_there j ne))

    pub inserted : IsInserted buckets A words B
    inserted = record {
      entries = λ w. (
        (λ h. dite (ℕ_discrete h.node node)
            (λ (is : h.node ≡ node).
            inr (sym h.is ∙ (ap (λ (n : ℕ). (node_at B n).words) is ∙ words_here)))
            (λ (ne : h.node ≢ node). inl (still_there buckets B A w h.node h.entry.behind
            (sym (state_there h.node ne) ∙ h.entry.live) (sym (words_there h.node ne) ∙ h.is)))),
        (λ s.
            ⊎_elim
            (λ (h : HasEntry buckets A w).
            let ne = not_free A node h.node free h.entry.live in
            still_there buckets A B w h.node h.entry.behind (state_there h.node ne ∙ h.entry.live)
            (words_there h.node ne ∙ h.is))
            (λ (is : w ≡ words). still_there buckets A B w node
            (node_behind holds buckets seed width count A m node free) (states node ∙ p.live)
            (words_here ∙ sym is))
            s),
      );
      node = node;
      was_free = record { inside = low; free = free };
      live = states node ∙ p.live;
      is = words_here;
      others = λ i ne. record { state = state_there i ne; words = words_there i ne };
    }
