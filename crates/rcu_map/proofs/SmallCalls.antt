-- The calls of the small run are made by one store each, or by a look, and are a run over its
-- moments.
use Rattle.std.proofs.Common.{◌≡◌, ◌⊎◌, ℕ, suc, ◌<◌, ◌≤◌, Bool, true, List, [], ◌∷◌, None, Some}
use Rattle.std.proofs.Common.{inl, inr, ⊎_elim, refl, sym, ap, subst, arith}
use Rattle.std.specs.Prelude.{slice_index}
use Rattle.rcu_live.specs.Watcher.{Watching}
use Rattle.rcu_graph.specs.Absence.{AreMadeBy}
use Rattle.rcu_graph.specs.Nodes.{latest_in, node_at, state_at}
use Rattle.rcu_graph.specs.Tended.{AreCollected, AreHeldUp, IsReachedFrom}
use Rattle.rcu_graph.specs.declared.known.Known.{Known}
use Rattle.rcu_graph.specs.declared.known.Planned.{Planned}
use Rattle.rcu_graph.specs.declared.node_state.NodeState.{NodeState}
use Rattle.rcu_graph.specs.declared.node_state.NodeState.TheVariants.{Free, Live, Retired, Unlinked}
use Rattle.rcu_graph.specs.declared.known.Node.{Node}
use Rattle.rcu_map.specs.Beside.{AreMadeOver, HadEntry, HadKey}
use Rattle.rcu_map.specs.Entries.{IsNodeOf}
use Rattle.rcu_map.specs.Puts.{IsByOneStore}
use Rattle.rcu_map.specs.Runs.{HasKeyThroughout, IsMapOf, IsRun, begun, changed, last_of, looked}
use Rattle.rcu_map.specs.Runs.{seen_in}
use Rattle.rcu_map.specs.SmallMap.{nodes_by}
use Rattle.rcu_map.specs.SmallMap.{hop_1, hop_2, small_begun, small_holds, small_inserted}
use Rattle.rcu_map.specs.SmallMap.{small_looked, small_moments, small_nodes, small_plan}
use Rattle.rcu_map.specs.SmallMap.{small_removed, small_replaced}
use Rattle.rcu_map.specs.Splices.{by_passing, by_put}
use Rattle.rcu_map.proofs.SmallMap.{five, free_is_not_live, led_1, led_2, led_4, map_0, map_1}
use Rattle.rcu_map.proofs.SmallMap.{map_3, map_5, map_6, reached_1, reached_3, reached_5}
use Rattle.rcu_map.proofs.SmallMap.{unlinked_is_not_live}

-- the node that a call unlinked, behind its store: none, the node 2, the node 3
abbrev Collected : ℕ → ℕ → Type 0
Collected n m = AreCollected 2 1 (small_nodes n) (small_nodes m)

collected_1 : Collected 1 1
collected_1 = record {
  few = refl;
  links_stay = λ i. refl;
  words_stay = λ i. refl;
  states = λ i. inl refl;
  reached = reached_1;
  stay = λ these held i one. held.live i one;
}

-- no node that is live or held up leads to the node 2 then, and none to the node 3
abbrev Leading : ℕ → ℕ → Type 0
Leading n j = (these : ℕ → Bool) → AreHeldUp 2 1 (small_nodes n) these
    → IsReachedFrom 1 (small_nodes n) these j → ⊥

leads_from : (n j : ℕ)
    → ((i : ℕ) → slice_index (node_at (small_nodes n) i).links 0 ≡ suc j
    → state_at (small_nodes n) i ≡ Live → ⊥)
    → Leading n j
leads_from n j none these held r =
    let low = r.inside in
    let first : r.link ≡ 0 = omega (arith, low) in
    none r.from
    (subst (λ (l : ℕ). slice_index (node_at (small_nodes n) r.from).links l ≡ suc j) first r.leads)
    (held.live r.from r.one)

none_to_2 : Leading 2 2
none_to_2 = leads_from 2 2
    (five (λ i. slice_index (node_at (small_nodes 2) i).links 0 ≡ 3
    → state_at (small_nodes 2) i ≡ Live → ⊥)
    (λ e live. omega (arith, e)) (λ e live. omega (arith, e)) (λ e live. omega (arith, e))
    (λ e live. omega (arith, e)) (λ e live. omega (arith, e)) (λ i e live. free_is_not_live live))

none_to_3 : Leading 4 3
none_to_3 = leads_from 4 3
    (five (λ i. slice_index (node_at (small_nodes 4) i).links 0 ≡ 4
    → state_at (small_nodes 4) i ≡ Live → ⊥)
    (λ e live. omega (arith, e)) (λ e live. omega (arith, e))
    (λ e live. unlinked_is_not_live live)
    (λ e live. omega (arith, e)) (λ e live. omega (arith, e)) (λ i e live. free_is_not_live live))

-- so a set of nodes that hold one another up has neither
not_held : (n j : ℕ) → 2 ≤ j → Leading n j → (these : ℕ → Bool)
    → AreHeldUp 2 1 (small_nodes n) these → these j ≡ true → ⊥
not_held n j past none these held one =
    ⊎_elim (λ (low : j < 2). omega (arith, low, past))
    (λ (r : IsReachedFrom 1 (small_nodes n) these j). none these held r)
    (held.held j one)

abbrev Stays : ℕ → ℕ → (ℕ → Bool) → ℕ → Type 0
Stays n m these i = these i ≡ true → state_at (small_nodes m) i ≡ Live

collected_3 : Collected 2 3
collected_3 = record {
  few = refl;
  links_stay = five (λ i. (node_at (small_nodes 3) i).links ≡ (node_at (small_nodes 2) i).links)
      refl refl refl refl refl (λ i. refl);
  words_stay = five (λ i. (node_at (small_nodes 3) i).words ≡ (node_at (small_nodes 2) i).words)
      refl refl refl refl refl (λ i. refl);
  states = five (λ i. (state_at (small_nodes 3) i ≡ state_at (small_nodes 2) i)
      ⊎ ((2 ≤ i) × (state_at (small_nodes 2) i ≡ Live) × (state_at (small_nodes 3) i ≡ Unlinked)))
      (inl refl) (inl refl) (inr (omega arith, refl, refl)) (inl refl) (inl refl) (λ i. inl refl);
  reached = reached_3;
  stay = λ these held. five (Stays 2 3 these) (λ one. held.live 0 one) (λ one. held.live 1 one)
      (λ one. absurd (not_held 2 2 (omega arith) none_to_2 these held one))
      (λ one. held.live 3 one) (λ one. held.live 4 one)
      (λ i one. held.live (suc (suc (suc (suc (suc i))))) one);
}

collected_5 : Collected 4 5
collected_5 = record {
  few = refl;
  links_stay = five (λ i. (node_at (small_nodes 5) i).links ≡ (node_at (small_nodes 4) i).links)
      refl refl refl refl refl (λ i. refl);
  words_stay = five (λ i. (node_at (small_nodes 5) i).words ≡ (node_at (small_nodes 4) i).words)
      refl refl refl refl refl (λ i. refl);
  states = five (λ i. (state_at (small_nodes 5) i ≡ state_at (small_nodes 4) i)
      ⊎ ((2 ≤ i) × (state_at (small_nodes 4) i ≡ Live) × (state_at (small_nodes 5) i ≡ Unlinked)))
      (inl refl) (inl refl) (inl refl) (inr (omega arith, refl, refl)) (inl refl) (λ i. inl refl);
  reached = reached_5;
  stay = λ these held. five (Stays 4 5 these) (λ one. held.live 0 one) (λ one. held.live 1 one)
      (λ one. held.live 2 one)
      (λ one. absurd (not_held 4 3 (omega arith) none_to_3 these held one))
      (λ one. held.live 4 one)
      (λ i one. held.live (suc (suc (suc (suc (suc i))))) one);
}

module _ (own : Watching Planned) where
  -- each call is by one store
  inserted_by : IsByOneStore (small_begun own) (small_inserted own)
  inserted_by = record {
    stored = small_nodes 1;
    one = by_put 2 3 (6 ∷ 60 ∷ []) None refl (record { inside = omega arith; free = refl }) refl;
    state = refl;
    led = led_1;
    collected = collected_1;
  }

  replaced_by : IsByOneStore (small_inserted own) (small_replaced own)
  replaced_by = record {
    stored = small_nodes 2;
    one = by_put 1 4 (3 ∷ 31 ∷ []) (Some 3) refl (record { inside = omega arith; free = refl })
        refl;
    state = refl;
    led = led_2;
    collected = collected_3;
  }

  removed_by : IsByOneStore (small_replaced own) (small_removed own)
  removed_by = record {
    stored = small_nodes 4;
    one = by_passing 4 None refl refl;
    state = refl;
    led = led_4;
    collected = collected_5;
  }

  at_first : IsMapOf small_holds small_plan (small_begun own)
  at_first = record { planned = refl; map = map_0 }

  abbrev small_run : IsRun small_holds small_plan 4 (small_looked own)
  small_run =
      looked (small_removed own) (small_looked own) 5
      (changed (small_replaced own) (small_removed own)
      (changed (small_inserted own) (small_replaced own)
      (changed (small_begun own) (small_inserted own) (begun (small_begun own) at_first)
      inserted_by (record { planned = refl; map = map_1 }))
      replaced_by (record { planned = refl; map = map_3 }))
      removed_by (record { planned = refl; map = map_5 }))
      refl refl (record { planned = refl; map = map_6 })

  made_over : AreMadeOver small_holds small_plan 4 small_moments 10 (small_looked own) small_run
  made_over = (
    refl,
    7,
    omega arith,
    (
      refl,
      5,
      omega arith,
      (
        refl,
        3,
        omega arith,
        (refl, 2, omega arith, (refl, refl)),
      ),
    ),
  )

  -- at the moment 7 the writer has not looked yet
  not_made_over : AreMadeOver small_holds small_plan 4 small_moments 7 (small_looked own) small_run
      → ⊥
  not_made_over made =
      let latest : 0 ≡ 5 = ap (λ (k : Known). latest_in k) made.0 in omega (arith, latest)

  stays : HasKeyThroughout small_holds small_plan 4 3 (small_looked own) small_run
  stays = (
    (
      (
        (
          (2, record { entry = record { behind = omega arith; live = refl }; is = refl }),
          (2, record { entry = record { behind = omega arith; live = refl }; is = refl }),
        ),
        (4, record { entry = record { behind = omega arith; live = refl }; is = refl }),
      ),
      (4, record { entry = record { behind = omega arith; live = refl }; is = refl }),
    ),
    (4, record { entry = record { behind = omega arith; live = refl }; is = refl }),
  )

  comes_and_goes : HadKey small_holds small_plan 4 6 (small_looked own) small_run
  comes_and_goes = inl (inl (inl (inr
      (3, record { entry = record { behind = omega arith; live = refl }; is = refl }))))

  had_entry : HadEntry small_holds small_plan 4 (6 ∷ 60 ∷ []) (small_looked own) small_run
  had_entry = inl (inl (inl (inr
      (record { node = 3; entry = record { behind = omega arith; live = refl }; is = refl }))))

  -- the key 6 is not there at first
  not_throughout : HasKeyThroughout small_holds small_plan 4 6 (small_looked own) small_run → ⊥
  not_throughout ((((first, _), _), _), _) = not_first first.0 first.1
    where
      not_first : (i : ℕ) → IsNodeOf 2 (small_nodes 0) 6 i → ⊥
      not_first = five (λ i. IsNodeOf 2 (small_nodes 0) 6 i → ⊥)
          (λ is. let k : 0 ≡ 6 = is.is in omega (arith, k))
          (λ is. let k : 0 ≡ 6 = is.is in omega (arith, k))
          (λ is. let k : 3 ≡ 6 = is.is in omega (arith, k))
          (λ is. free_is_not_live is.entry.live) (λ is. free_is_not_live is.entry.live)
          (λ i is. free_is_not_live is.entry.live)

-- no entry ever has the key 8
not_8 : (root first last : ℕ) (a b c : NodeState) (i : ℕ)
    → IsNodeOf 2 (nodes_by root first last a b c) 8 i → ⊥
not_8 root first last a b c = five (λ i. IsNodeOf 2 (nodes_by root first last a b c) 8 i → ⊥)
    (λ is. let k : 0 ≡ 8 = is.is in omega (arith, k))
    (λ is. let k : 0 ≡ 8 = is.is in omega (arith, k))
    (λ is. let k : 3 ≡ 8 = is.is in omega (arith, k))
    (λ is. let k : 6 ≡ 8 = is.is in omega (arith, k))
    (λ is. let k : 3 ≡ 8 = is.is in omega (arith, k))
    (λ i is. free_is_not_live is.entry.live)

never_8 : (own : Watching Planned)
    → HadKey small_holds small_plan 4 8 (small_looked own) (small_run own) → ⊥
never_8 own (inr h) = not_8 5 4 0 (Retired 5) (Retired 5) Live h.0 h.1
never_8 own (inl (inr h)) = not_8 5 4 0 Unlinked Unlinked Live h.0 h.1
never_8 own (inl (inl (inr h))) = not_8 5 4 4 Unlinked Live Live h.0 h.1
never_8 own (inl (inl (inl (inr h)))) = not_8 3 4 4 Live Live Free h.0 h.1
never_8 own (inl (inl (inl (inl h)))) = not_8 3 0 4 Live Free Free h.0 h.1

-- the hops to both entries are true, the first one at first and the second one right after the
-- store of the insertion
abbrev IsMade : (own : Watching Planned) → IsRun small_holds small_plan 4 (small_looked own)
    → Type 0
IsMade own run = AreMadeBy (seen_in small_holds small_plan 4 (small_looked own) run)
    (last_of small_holds small_plan 4 (small_looked own) run) (hop_2 ∷ hop_1 ∷ [])

true_to : (nodes : List Node) (j : ℕ) (words : List ℕ) → (node_at nodes j).words ≡ words → (i : ℕ)
    → suc j ≡ suc i → words ≡ (node_at nodes i).words
true_to nodes j words is i e =
    let same : j ≡ i = omega (arith, e) in
    subst (λ (n : ℕ). words ≡ (node_at nodes n).words) same (sym is)

hops_are_made : (own : Watching Planned) → IsMade own (small_run own)
unfolding inserted_by
hops_are_made own = (
  2,
  omega arith,
  record { to = refl; words = true_to (small_nodes 1) 3 (6 ∷ 60 ∷ []) refl },
  (
    0,
    omega arith,
    record { to = refl; words = true_to (small_nodes 0) 2 (3 ∷ 30 ∷ []) refl },
    tt,
  ),
)

pub run_is : (own : Watching Planned)
    → (run : IsRun small_holds small_plan 4 (small_looked own))
    × AreMadeOver small_holds small_plan 4 small_moments 10 (small_looked own) run
    × (AreMadeOver small_holds small_plan 4 small_moments 7 (small_looked own) run → ⊥)
    × HasKeyThroughout small_holds small_plan 4 3 (small_looked own) run
    × (HasKeyThroughout small_holds small_plan 4 6 (small_looked own) run → ⊥)
    × HadKey small_holds small_plan 4 6 (small_looked own) run
    × (HadKey small_holds small_plan 4 8 (small_looked own) run → ⊥)
    × HadEntry small_holds small_plan 4 (6 ∷ 60 ∷ []) (small_looked own) run
    × IsMade own run
run_is own = (
  small_run own,
  made_over own,
  not_made_over own,
  stays own,
  not_throughout own,
  comes_and_goes own,
  never_8 own,
  had_entry own,
  hops_are_made own,
)
