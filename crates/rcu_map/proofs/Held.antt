-- Each live node that stays is a root, or another one leads to it, after a node was put in and
-- after one was skipped.
use Rattle.std.proofs.Common.{◌≡◌, ◌≢◌, ℕ, suc, ◌<◌, ◌≤◌, ◌⊎◌, inl, inr, ⊎_elim, Bool, true, List}
use Rattle.std.proofs.Common.{refl, sym, ap, ◌∙◌}
use Rattle.std.proofs.lemmas.Bool.{cases_lt}
use mathlib.Core.Logic.{dite}
use native.Mathlib.Decide.{ℕ_discrete}
use Rattle.rcu_graph.specs.Absence.{next_of}
use Rattle.rcu_graph.specs.Nodes.{node_at, state_at}
use Rattle.rcu_graph.specs.declared.known.Node.{Node}
use Rattle.rcu_graph.specs.declared.node_state.NodeState.TheVariants.{Free, Live}
use Rattle.rcu_map.specs.Chains.{IsMap}
use Rattle.rcu_map.specs.Entries.{HasEntry}
use Rattle.rcu_map.proofs.Chains.{reached}
use Rattle.rcu_map.proofs.Gaps.{IsPassed, IsPut}
use Rattle.rcu_graph.proofs.Puts.{not_free}
use Rattle.rcu_map.proofs.Collected.{AreHeld}

-- the entry of the node i is in the map still
pub still_there : (buckets : ℕ) (A B : List Node) (w : List ℕ) (i : ℕ)
    → buckets ≤ i → state_at B i ≡ Live → (node_at B i).words ≡ w → HasEntry buckets B w
still_there buckets A B w i past live is = record {
  node = i;
  entry = record { behind = past; live = live };
  is = is;
}

module _ (holds : List ℕ → Type 0) (buckets seed width count : ℕ) (A : List Node)
    (m : IsMap holds buckets seed width count A) where
  pub node_behind : (node : ℕ) → state_at A node ≡ Free → buckets ≤ node
  node_behind node free = ⊎_elim
      (λ (low : node < buckets). absurd (not_free A node node free (m.tended.rooted node low) refl))
      (λ (past : buckets ≤ node). past)
      (cases_lt node buckets)

  module _ (stays : ℕ → Bool) (previous word : ℕ)
      (passes : (i j : ℕ) → state_at A j ≡ Live → next_of A j ≡ suc i → stays i ≡ true
      → (word ≡ suc i) ⊎ ((j ≢ previous) × (stays j ≡ true))) where
    -- if a node was put in
    pub held_with : (S : List Node) (node : ℕ) (words : List ℕ)
        → IsPut A S previous node words word
        → state_at A node ≡ Free
        → state_at A previous ≡ Live
        → stays previous ≡ true
        → stays node ≡ true
        → AreHeld buckets S stays
    held_with S node words p free live keeps new i on kept =
        ⊎_elim (λ (low : i < buckets). inl low)
        (λ (past : buckets ≤ i). inr (dite (ℕ_discrete i node)
        (λ (is : i ≡ node). (
          previous,
          p.states previous (not_free A node previous free live) ∙ live,
          keeps,
          p.led ∙ ap suc (sym is),
        ))
        (λ (ne : i ≢ node).
        let r = reached holds buckets seed width count A m i (sym (p.states i ne) ∙ on) past in
        let nj = not_free A node r.0 free r.1 in
        ⊎_elim (λ (here : word ≡ suc i). (node, p.live, new, p.onward ∙ here))
        (λ (q : (r.0 ≢ previous) × (stays r.0 ≡ true)). (
          r.0,
          p.states r.0 nj ∙ r.1,
          q.1,
          p.leads r.0 nj q.0 ∙ r.2,
        ))
        (passes i r.0 r.1 r.2 kept))))
        (cases_lt i buckets)

    -- if one was skipped
    pub held_past : (S : List Node)
        → IsPassed A S previous word → state_at A previous ≡ Live → stays previous ≡ true
        → AreHeld buckets S stays
    held_past S p live keeps i on kept =
        ⊎_elim (λ (low : i < buckets). inl low)
        (λ (past : buckets ≤ i).
        let r = reached holds buckets seed width count A m i (sym (p.states i) ∙ on) past in
        inr (⊎_elim
        (λ (here : word ≡ suc i). (previous, p.states previous ∙ live, keeps, p.led ∙ here))
        (λ (q : (r.0 ≢ previous) × (stays r.0 ≡ true)). (
          r.0,
          p.states r.0 ∙ r.1,
          q.1,
          p.leads r.0 q.0 ∙ r.2,
        ))
        (passes i r.0 r.1 r.2 kept)))
        (cases_lt i buckets)
