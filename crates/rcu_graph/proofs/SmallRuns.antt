-- The moments of the small run are a history.
use Rattle.std.proofs.Common.{◌≡◌, ℕ, zero, suc, ◌<◌, ◌≤◌, List, [], ◌∷◌, Some, true, ap, arith}
use Rattle.std.proofs.Common.{refl, subst, sym}
use Rattle.std.specs.Prelude.{slice_index}
use Rattle.rcu_graph.specs.Absence.{AreSameFor, IsChained, IsHistory, IsLinkedKey, IsWriterStep}
use Rattle.rcu_graph.specs.Absence.{Reaches, key_at, next_of}
use Rattle.rcu_graph.specs.Nodes.{state_at}
use Rattle.rcu_graph.specs.Search.{IsSearched}
use Rattle.rcu_graph.specs.SmallRun.{first_hop, second_hop, small_nodes}
use Rattle.rcu_graph.specs.declared.known.Known.TheVariants.{Reader}
use Rattle.rcu_graph.specs.declared.node_state.NodeState.TheVariants.{Live}

-- the targets of the nodes: only the root leads to one, and then the node 1 too
led_at_first : (i j : ℕ) → next_of (small_nodes 0) i ≡ suc j → (i ≡ 0) × (j ≡ 1)
led_at_first zero j leads = (refl, omega (arith, leads))
led_at_first (suc zero) j leads = absurd (omega (arith, leads))
led_at_first (suc (suc zero)) j leads = absurd (omega (arith, leads))
led_at_first (suc (suc (suc i))) j leads = absurd (omega (arith, leads))

led_then : (i j : ℕ) → next_of (small_nodes 1) i ≡ suc j → (i < 2) × (j ≡ suc i)
led_then zero j leads = (omega arith, omega (arith, leads))
led_then (suc zero) j leads = (omega arith, omega (arith, leads))
led_then (suc (suc zero)) j leads = absurd (omega (arith, leads))
led_then (suc (suc (suc i))) j leads = absurd (omega (arith, leads))

live_then : (i : ℕ) → i < 2 → state_at (small_nodes 1) (suc i) ≡ Live
live_then zero low = refl
live_then (suc zero) low = refl
live_then (suc (suc i)) low = absurd (omega (arith, low))

up_then : (i : ℕ) → i < 2 → key_at (small_nodes 1) i < key_at (small_nodes 1) (suc i)
up_then zero low = omega arith
up_then (suc zero) low = omega arith
up_then (suc (suc i)) low = absurd (omega (arith, low))

chained : (t : ℕ) → t ≤ 1 → IsChained (λ _. true) 0 (small_nodes t)
chained zero low = record {
  rooted = refl;
  own = refl;
  live = λ i j live leads. subst (λ (n : ℕ). state_at (small_nodes 0) n ≡ Live)
      (sym (led_at_first i j leads).1) refl;
  ascends = λ i j live leads.
      let l = led_at_first i j leads in
      subst (λ (m : ℕ). key_at (small_nodes 0) m < key_at (small_nodes 0) j) (sym l.0)
      (subst (λ (n : ℕ). 0 < key_at (small_nodes 0) n) (sym l.1) (omega arith));
  stays = λ i j live leads own. refl;
}
chained (suc zero) low = record {
  rooted = refl;
  own = refl;
  live = λ i j live leads.
      let l = led_then i j leads in
      subst (λ (n : ℕ). state_at (small_nodes 1) n ≡ Live) (sym l.1) (live_then i l.0);
  ascends = λ i j live leads.
      let l = led_then i j leads in
      subst (λ (n : ℕ). key_at (small_nodes 1) i < key_at (small_nodes 1) n) (sym l.1)
      (up_then i l.0);
  stays = λ i j live leads own. refl;
}
chained (suc (suc t)) low = absurd (omega (arith, low))

steps : (opened t : ℕ) → t < 1
    → IsWriterStep (λ _. true) opened 0 (small_nodes t) (small_nodes (suc t))
steps opened zero low = IsWriterStep.published 1 0 2 refl refl
    (λ own. Reaches.onwards 0 1 refl (Reaches.arrived 1 refl)) refl
steps opened (suc t) low = absurd (omega (arith, low))

pub small_history : (opened : ℕ) → IsHistory (λ _. true) opened 0 1 small_nodes
small_history opened = record { chained = chained; steps = steps opened }

-- the section sees that the node 1 is led elsewhere
pub small_not_aside : (opened : ℕ) → AreSameFor opened (small_nodes 0) (small_nodes 1) → ⊥
small_not_aside opened same =
    let moved : next_of (small_nodes 1) 1 ≡ next_of (small_nodes 0) 1 =
    ap (λ (links : List ℕ). slice_index links 0) (same 1 tt).1 in
    absurd (omega (arith, moved))

pub small_linked : (t : ℕ) → t ≤ 1 → IsLinkedKey 0 5 (small_nodes t)
small_linked zero low = record {
  begin = 1;
  holder = 1;
  begins = refl;
  reached = Reaches.arrived 1 refl;
  has = refl;
}
small_linked (suc t) low = record {
  begin = 1;
  holder = 1;
  begins = refl;
  reached = Reaches.arrived 1 refl;
  has = refl;
}

pub small_linked_then : IsLinkedKey 0 7 (small_nodes 1)
small_linked_then = record {
  begin = 1;
  holder = 2;
  begins = refl;
  reached = Reaches.onwards 1 2 refl (Reaches.arrived 2 refl);
  has = refl;
}

pub small_search : IsSearched 0 7 (Reader []) (Some 2) (Reader (second_hop ∷ first_hop ∷ []))
small_search = record {
  path = first_hop ∷ [];
  last = second_hop;
  are = refl;
  is_path = (refl, refl, omega arith, refl);
  along = refl;
  decided = (refl, refl);
}
