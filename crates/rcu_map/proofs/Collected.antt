-- A map's nodes after every node without a link from a live one was unlinked: the remaining ones
-- are in order, and no others are live.
use Rattle.std.proofs.Common.{◌≡◌, ℕ, suc, ◌<◌, ◌≤◌, ◌⊎◌, inl, inr, ⊎_elim, Bool, true, false, ◌&&◌}
use Rattle.std.proofs.Common.{List, length, refl, sym, ap, ◌∙◌, subst, arith}
use Rattle.std.specs.Prelude.{slice_index}
use Rattle.std.proofs.lemmas.Bool.{and_from, and_parts}
use Rattle.rcu_graph.specs.Absence.{key_at, next_of}
use Rattle.rcu_graph.specs.Nodes.{is_live, node_at, state_at}
use Rattle.rcu_graph.specs.Tended.{AreCollected, AreHeldUp, AreTended}
use Rattle.rcu_graph.specs.declared.known.Node.{Node}
use Rattle.rcu_graph.specs.declared.node_state.NodeState.TheVariants.{Live, Unlinked}
use Rattle.rcu_graph.proofs.Counting.{live_test, test_live}
use Rattle.rcu_graph.proofs.Tending.{live_before}
use Rattle.rcu_map.specs.Chains.{AreOfOneBucket, IsMap}
use Rattle.rcu_map.specs.Keys.{GoesUp, IsWhole, bucket_in, key_in}
use Rattle.rcu_map.proofs.Gaps.{AreOrdered}

-- the live nodes that stay
abbrev these : List Node → (ℕ → Bool) → ℕ → Bool
these nodes stays i = is_live (state_at nodes i) && stays i

-- each live node that stays is a root, or another one that stays leads to it
abbrev pub AreHeld : ℕ → List Node → (ℕ → Bool) → Type 0
AreHeld buckets nodes stays =
    (i : ℕ)
    → state_at nodes i ≡ Live
    → stays i ≡ true
    → (i < buckets)
    ⊎ ((j : ℕ) × (state_at nodes j ≡ Live) × (stays j ≡ true) × (next_of nodes j ≡ suc i))

module _ (buckets : ℕ) (S B : List Node) (t : AreCollected buckets 1 S B) where
  pub same_key : (i : ℕ) → key_at B i ≡ key_at S i
  same_key i = ap key_in (t.words_stay i)

  -- a node to which none leads is unlinked
  pub is_unlinked : (old : ℕ) → state_at S old ≡ Live → buckets ≤ old
      → ((j : ℕ) → state_at S j ≡ Live → next_of S j ≡ suc old → ⊥) → state_at B old ≡ Unlinked
  is_unlinked old live past none =
      ⊎_elim
      (λ (e : state_at B old ≡ state_at S old).
      let r = t.reached old (e ∙ live) past in
      let low = r.inside in
      let first : r.link ≡ 0 = omega (arith, low) in
      let leads : next_of B r.from ≡ suc old =
      subst (λ (l : ℕ). slice_index (node_at B r.from).links l ≡ suc old) first r.leads in
      absurd (none r.from (live_before buckets 1 S B t r.from r.live)
      (ap (λ (cells : List ℕ). slice_index cells 0) (sym (t.links_stay r.from)) ∙ leads)))
      (λ (q : (buckets ≤ old) × (state_at S old ≡ Live) × (state_at B old ≡ Unlinked)). q.2)
      (t.states old)

  module _ (stays : ℕ → Bool) where
    pub still_live : AreHeld buckets S stays → (i : ℕ) → state_at S i ≡ Live → stays i ≡ true
        → state_at B i ≡ Live
    still_live held i live kept = t.stay (these S stays) up i
        (and_from (is_live (state_at S i)) (stays i) (live_test (state_at S i) live) kept)
      where
        up : AreHeldUp buckets 1 S (these S stays)
        up = record {
          live = λ j one.
              test_live (state_at S j) (and_parts (is_live (state_at S j)) (stays j) one).0;
          held = λ j one. ⊎_elim (λ (low : j < buckets). inl low)
              (λ (r : (k : ℕ) × (state_at S k ≡ Live) × (stays k ≡ true) × (next_of S k ≡ suc j)).
              inr (record {
                from = r.0;
                link = 0;
                one = and_from (is_live (state_at S r.0)) (stays r.0)
                    (live_test (state_at S r.0) r.1) r.2;
                inside = omega arith;
                leads = r.3;
              }))
              (held j
              (test_live (state_at S j) (and_parts (is_live (state_at S j)) (stays j) one).0)
              (and_parts (is_live (state_at S j)) (stays j) one).1);
        }

    pub same_state : AreHeld buckets S stays → (i : ℕ) → stays i ≡ true
        → state_at B i ≡ state_at S i
    same_state held i kept = ⊎_elim (λ (e : state_at B i ≡ state_at S i). e)
        (λ (q : (buckets ≤ i) × (state_at S i ≡ Live) × (state_at B i ≡ Unlinked)).
        still_live held i q.1 kept ∙ sym q.1)
        (t.states i)

    pub map_after : (holds : List ℕ → Type 0) (seed width count : ℕ)
        → AreOrdered buckets seed width S stays
        → ((i : ℕ) → state_at B i ≡ Live → stays i ≡ true)
        → length B ≡ count
        → AreTended (IsWhole holds width) (λ _ from to. GoesUp buckets seed from to) buckets 1 B
        → IsMap holds buckets seed width count B
    map_after holds seed width count o kept few tended = record {
      few = few;
      tended = tended;
      roots = λ i low. t.words_stay i ∙ o.roots i low;
      linked = λ i live.
          ap (λ (cells : List ℕ). length cells) (t.links_stay i)
          ∙ o.linked i (live_before buckets 1 S B t i live);
      next = λ i j one less.
          let a = same_key i in let b = same_key j in
          let l = o.next i j (before i j one) (kept i one.first) (kept j one.second)
          (omega (arith, less, a, b)) in
          let near = l.near in let d = same_key l.to in record {
            to = l.to;
            leads = ap (λ (cells : List ℕ). slice_index cells 0) (t.links_stay i) ∙ l.leads;
            near = omega (arith, near, b, d);
          };
      apart = λ i j one same.
          let a = same_key i in let b = same_key j in
          o.apart i j (before i j one) (kept i one.first) (kept j one.second)
          (omega (arith, same, a, b));
    }
      where
        before : (i j : ℕ) → AreOfOneBucket buckets seed B i j → AreOfOneBucket buckets seed S i j
        before i j one = record {
          first = live_before buckets 1 S B t i one.first;
          second = live_before buckets 1 S B t j one.second;
          same =
              ap (λ (w : List ℕ). bucket_in buckets seed w) (sym (t.words_stay i))
              ∙ (one.same ∙ ap (λ (w : List ℕ). bucket_in buckets seed w) (t.words_stay j));
        }
