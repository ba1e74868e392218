-- The nodes of the small run are those of a map before and after each call of the writer.
use Rattle.std.proofs.Common.{◌≡◌, ℕ, zero, suc, ◌<◌, ◌≤◌, List, [], ◌∷◌, length}
use Rattle.std.proofs.Common.{refl, subst, arith}
use Rattle.std.specs.Prelude.{slice_index}
use mathlib.Core.Option.{some}
use lib.ListN.{get_elem?}
use Rattle.rcu_graph.specs.Absence.{key_at}
use Rattle.rcu_graph.specs.Nodes.{IsTarget, node_at, state_at}
use Rattle.rcu_graph.specs.Tended.{AreLed, IsReached}
use Rattle.rcu_graph.specs.declared.known.Node.{Node}
use Rattle.rcu_graph.specs.declared.node_state.NodeState.{NodeState}
use Rattle.rcu_graph.specs.declared.node_state.NodeState.TheVariants.{Free, Live, Retired, Unlinked}
use Rattle.rcu_map.specs.Chains.{AreOfOneBucket, IsMap, LeadsTowards}
use Rattle.rcu_map.specs.Keys.{GoesUp, IsWhole, root_words}
use Rattle.rcu_map.specs.SmallMap.{nodes_by, small_holds}
use Rattle.rcu_map.specs.SmallMap.{small_node, small_nodes}
use Rattle.rcu_map.specs.SmallMap.{small_plan}

-- a property of each of five nodes, and of none behind them
pub five : (P : ℕ → Type 0) → P 0 → P 1 → P 2 → P 3 → P 4
    → ((i : ℕ) → P (suc (suc (suc (suc (suc i)))))) → (i : ℕ) → P i
five P a b c d e behind zero = a
five P a b c d e behind (suc zero) = b
five P a b c d e behind (suc (suc zero)) = c
five P a b c d e behind (suc (suc (suc zero))) = d
five P a b c d e behind (suc (suc (suc (suc zero)))) = e
five P a b c d e behind (suc (suc (suc (suc (suc i))))) = behind i

pub free_is_not_live : Free ≡ Live → ⊥
free_is_not_live e = cc

pub unlinked_is_not_live : Unlinked ≡ Live → ⊥
unlinked_is_not_live e = cc

retired_is_not_live : (n : ℕ) → Retired n ≡ Live → ⊥
retired_is_not_live n e = cc

abbrev pub seed : ℕ
seed = small_plan.seed

abbrev pub Up : List ℕ → List ℕ → Type 0
Up from to = GoesUp 2 seed from to

-- from the second root to an entry of key 3, and from such a one to that of key 6
pub up_to_3 : (word : ℕ) → Up (0 ∷ 1 ∷ []) (3 ∷ word ∷ [])
up_to_3 word = record { up = omega arith; same = refl }

pub up_to_6 : (word : ℕ) → Up (3 ∷ word ∷ []) (6 ∷ 60 ∷ [])
up_to_6 word = record { up = omega arith; same = refl }

-- a link leads to this node, or nowhere
to_node : (nodes : List Node) (words : List ℕ) (k : ℕ) (v : Node)
    → get_elem? nodes k ≡ some v → v.state ≡ Live → Up words v.words
    → IsTarget Up words nodes (suc k)
to_node nodes words k v there live up j is =
    let same : k ≡ j = omega (arith, is) in
    (v, subst (λ (n : ℕ). get_elem? nodes n ≡ some v) same there, live, up)

nowhere : (nodes : List Node) (words : List ℕ) → IsTarget Up words nodes 0
nowhere nodes words j is = absurd (omega (arith, is))

module _ (root first last : ℕ) (a b c : NodeState) where
  abbrev N : List Node
  N = nodes_by root first last a b c

  abbrev Led : ℕ → Type 0
  Led i = state_at N i ≡ Live
      → IsTarget Up (node_at N i).words N (slice_index (node_at N i).links 0)

  led_each : IsTarget Up (0 ∷ 1 ∷ []) N root
      → (a ≡ Live → IsTarget Up (3 ∷ 30 ∷ []) N first)
      → (c ≡ Live → IsTarget Up (3 ∷ 31 ∷ []) N last)
      → (i : ℕ) → Led i
  led_each p q r = five Led (λ live. nowhere N (0 ∷ 0 ∷ [])) (λ live. p) q
      (λ live. nowhere N (6 ∷ 60 ∷ [])) r (λ i live. absurd (free_is_not_live live))

  -- each link of a live node leads nowhere, or to a live one
  led_by : IsTarget Up (0 ∷ 1 ∷ []) N root
      → (a ≡ Live → IsTarget Up (3 ∷ 30 ∷ []) N first)
      → (c ≡ Live → IsTarget Up (3 ∷ 31 ∷ []) N last)
      → AreLed (λ _ from to. GoesUp 2 seed from to) 1 N
  led_by p q r i zero live low = led_each p q r i live
  led_by p q r i (suc l) live low = absurd (omega (arith, low))

  rooted : (i : ℕ) → i < 2 → state_at N i ≡ Live
  rooted zero low = refl
  rooted (suc zero) low = refl
  rooted (suc (suc i)) low = absurd (omega (arith, low))

  roots : (i : ℕ) → i < 2 → (node_at N i).words ≡ root_words 2 i
  roots zero low = refl
  roots (suc zero) low = refl
  roots (suc (suc i)) low = absurd (omega (arith, low))

  whole : (i : ℕ) → state_at N i ≡ Live → IsWhole small_holds 2 (node_at N i).words
  whole = five (λ i. state_at N i ≡ Live → IsWhole small_holds 2 (node_at N i).words)
      (λ live. record { sized = refl; entry = λ up. up })
      (λ live. record { sized = refl; entry = λ up. up })
      (λ live. record { sized = refl; entry = λ up. up })
      (λ live. record { sized = refl; entry = λ up. up })
      (λ live. record { sized = refl; entry = λ up. up })
      (λ i live. absurd (free_is_not_live live))

  linked : (i : ℕ) → state_at N i ≡ Live → length (node_at N i).links ≡ 1
  linked = five (λ i. state_at N i ≡ Live → length (node_at N i).links ≡ 1)
      (λ live. refl) (λ live. refl) (λ live. refl) (λ live. refl) (λ live. refl)
      (λ i live. absurd (free_is_not_live live))

  -- a live node leads to each live one that is no root
  reached : (a ≡ Live → IsReached 1 N 2) → (b ≡ Live → IsReached 1 N 3)
      → (c ≡ Live → IsReached 1 N 4)
      → (i : ℕ) → state_at N i ≡ Live → 2 ≤ i → IsReached 1 N i
  reached p q r = five (λ i. state_at N i ≡ Live → 2 ≤ i → IsReached 1 N i)
      (λ live past. absurd (omega (arith, past))) (λ live past. absurd (omega (arith, past)))
      (λ live past. p live) (λ live past. q live) (λ live past. r live)
      (λ i live past. absurd (free_is_not_live live))

  abbrev Leads : ℕ → ℕ → Type 0
  Leads i j = AreOfOneBucket 2 seed N i j → key_at N i < key_at N j → LeadsTowards N i j

  not_up : (i j : ℕ) → key_at N j ≤ key_at N i → Leads i j
  not_up i j down one less = absurd (omega (arith, down, less))

  other : (i j : ℕ) → (AreOfOneBucket 2 seed N i j → ⊥) → Leads i j
  other i j ne one less = absurd (ne one)

  behind : (i j : ℕ) → Leads i (suc (suc (suc (suc (suc j)))))
  behind i j one less = absurd (free_is_not_live one.second)

  -- along each chain the live nodes are in the order of their keys
  next : (a ≡ Live → LeadsTowards N 1 2) → (b ≡ Live → LeadsTowards N 1 3)
      → (c ≡ Live → LeadsTowards N 1 4) → (a ≡ Live → b ≡ Live → LeadsTowards N 2 3)
      → (c ≡ Live → b ≡ Live → LeadsTowards N 4 3)
      → (i j : ℕ) → Leads i j
  next p q r s t = five (λ i. (j : ℕ) → Leads i j)
      (five (Leads 0) (not_up 0 0 (omega arith)) (not_up 0 1 (omega arith))
      (other 0 2 (λ one. let e : 0 ≡ 1 = one.same in omega (arith, e)))
      (other 0 3 (λ one. let e : 0 ≡ 1 = one.same in omega (arith, e)))
      (other 0 4 (λ one. let e : 0 ≡ 1 = one.same in omega (arith, e)))
      (behind 0))
      (five (Leads 1) (not_up 1 0 (omega arith)) (not_up 1 1 (omega arith))
      (λ one less. p one.second) (λ one less. q one.second) (λ one less. r one.second) (behind 1))
      (five (Leads 2) (not_up 2 0 (omega arith)) (not_up 2 1 (omega arith))
      (not_up 2 2 (omega arith)) (λ one less. s one.first one.second) (not_up 2 4 (omega arith))
      (behind 2))
      (five (Leads 3) (not_up 3 0 (omega arith)) (not_up 3 1 (omega arith))
      (not_up 3 2 (omega arith)) (not_up 3 3 (omega arith)) (not_up 3 4 (omega arith)) (behind 3))
      (five (Leads 4) (not_up 4 0 (omega arith)) (not_up 4 1 (omega arith))
      (not_up 4 2 (omega arith)) (λ one less. t one.first one.second) (not_up 4 4 (omega arith))
      (behind 4))
      (λ i j one less. absurd (free_is_not_live one.first))

  abbrev Apart : ℕ → ℕ → Type 0
  Apart i j = AreOfOneBucket 2 seed N i j → key_at N i ≡ key_at N j → i ≡ j

  -- two live nodes of one bucket and one key are the same
  apart : (a ≡ Live → c ≡ Live → ⊥) → (i j : ℕ) → Apart i j
  apart ne = five (λ i. (j : ℕ) → Apart i j)
      (five (Apart 0) (λ one e. refl)
      (λ one e. let o : 0 ≡ 1 = one.same in absurd (omega (arith, o)))
      (λ one e. let k : 0 ≡ 3 = e in absurd (omega (arith, k)))
      (λ one e. let k : 0 ≡ 6 = e in absurd (omega (arith, k)))
      (λ one e. let k : 0 ≡ 3 = e in absurd (omega (arith, k)))
      (λ j one e. absurd (free_is_not_live one.second)))
      (five (Apart 1) (λ one e. let o : 1 ≡ 0 = one.same in absurd (omega (arith, o)))
      (λ one e. refl)
      (λ one e. let k : 0 ≡ 3 = e in absurd (omega (arith, k)))
      (λ one e. let k : 0 ≡ 6 = e in absurd (omega (arith, k)))
      (λ one e. let k : 0 ≡ 3 = e in absurd (omega (arith, k)))
      (λ j one e. absurd (free_is_not_live one.second)))
      (five (Apart 2) (λ one e. let k : 3 ≡ 0 = e in absurd (omega (arith, k)))
      (λ one e. let k : 3 ≡ 0 = e in absurd (omega (arith, k)))
      (λ one e. refl)
      (λ one e. let k : 3 ≡ 6 = e in absurd (omega (arith, k)))
      (λ one e. absurd (ne one.first one.second))
      (λ j one e. absurd (free_is_not_live one.second)))
      (five (Apart 3) (λ one e. let k : 6 ≡ 0 = e in absurd (omega (arith, k)))
      (λ one e. let k : 6 ≡ 0 = e in absurd (omega (arith, k)))
      (λ one e. let k : 6 ≡ 3 = e in absurd (omega (arith, k)))
      (λ one e. refl)
      (λ one e. let k : 6 ≡ 3 = e in absurd (omega (arith, k)))
      (λ j one e. absurd (free_is_not_live one.second)))
      (five (Apart 4) (λ one e. let k : 3 ≡ 0 = e in absurd (omega (arith, k)))
      (λ one e. let k : 3 ≡ 0 = e in absurd (omega (arith, k)))
      (λ one e. absurd (ne one.second one.first))
      (λ one e. let k : 3 ≡ 6 = e in absurd (omega (arith, k)))
      (λ one e. refl)
      (λ j one e. absurd (free_is_not_live one.second)))
      (λ i j one e. absurd (free_is_not_live one.first))

-- the targets of the nodes of each moment
pub led_0 : AreLed (λ _ from to. GoesUp 2 seed from to) 1 (small_nodes 0)
led_0 = led_by 3 0 4 Live Free Free
    (to_node (small_nodes 0) (0 ∷ 1 ∷ []) 2 (small_node Live 0 (3 ∷ 30 ∷ [])) refl refl
    (up_to_3 30))
    (λ live. nowhere (small_nodes 0) (3 ∷ 30 ∷ [])) (λ live. absurd (free_is_not_live live))

pub led_1 : AreLed (λ _ from to. GoesUp 2 seed from to) 1 (small_nodes 1)
led_1 = led_by 3 4 4 Live Live Free
    (to_node (small_nodes 1) (0 ∷ 1 ∷ []) 2 (small_node Live 4 (3 ∷ 30 ∷ [])) refl refl
    (up_to_3 30))
    (λ live. to_node (small_nodes 1) (3 ∷ 30 ∷ []) 3 (small_node Live 0 (6 ∷ 60 ∷ [])) refl refl
    (up_to_6 30))
    (λ live. absurd (free_is_not_live live))

pub led_2 : AreLed (λ _ from to. GoesUp 2 seed from to) 1 (small_nodes 2)
led_2 = led_by 5 4 4 Live Live Live
    (to_node (small_nodes 2) (0 ∷ 1 ∷ []) 4 (small_node Live 4 (3 ∷ 31 ∷ [])) refl refl
    (up_to_3 31))
    (λ live. to_node (small_nodes 2) (3 ∷ 30 ∷ []) 3 (small_node Live 0 (6 ∷ 60 ∷ [])) refl refl
    (up_to_6 30))
    (λ live. to_node (small_nodes 2) (3 ∷ 31 ∷ []) 3 (small_node Live 0 (6 ∷ 60 ∷ [])) refl refl
    (up_to_6 31))

pub led_3 : AreLed (λ _ from to. GoesUp 2 seed from to) 1 (small_nodes 3)
led_3 = led_by 5 4 4 Unlinked Live Live
    (to_node (small_nodes 3) (0 ∷ 1 ∷ []) 4 (small_node Live 4 (3 ∷ 31 ∷ [])) refl refl
    (up_to_3 31))
    (λ live. absurd (unlinked_is_not_live live))
    (λ live. to_node (small_nodes 3) (3 ∷ 31 ∷ []) 3 (small_node Live 0 (6 ∷ 60 ∷ [])) refl refl
    (up_to_6 31))

pub led_4 : AreLed (λ _ from to. GoesUp 2 seed from to) 1 (small_nodes 4)
led_4 = led_by 5 4 0 Unlinked Live Live
    (to_node (small_nodes 4) (0 ∷ 1 ∷ []) 4 (small_node Live 0 (3 ∷ 31 ∷ [])) refl refl
    (up_to_3 31))
    (λ live. absurd (unlinked_is_not_live live)) (λ live. nowhere (small_nodes 4) (3 ∷ 31 ∷ []))

led_5 : AreLed (λ _ from to. GoesUp 2 seed from to) 1 (small_nodes 5)
led_5 = led_by 5 4 0 Unlinked Unlinked Live
    (to_node (small_nodes 5) (0 ∷ 1 ∷ []) 4 (small_node Live 0 (3 ∷ 31 ∷ [])) refl refl
    (up_to_3 31))
    (λ live. absurd (unlinked_is_not_live live)) (λ live. nowhere (small_nodes 5) (3 ∷ 31 ∷ []))

led_6 : AreLed (λ _ from to. GoesUp 2 seed from to) 1 (small_nodes 6)
led_6 = led_by 5 4 0 (Retired 5) (Retired 5) Live
    (to_node (small_nodes 6) (0 ∷ 1 ∷ []) 4 (small_node Live 0 (3 ∷ 31 ∷ [])) refl refl
    (up_to_3 31))
    (λ live. absurd (retired_is_not_live 5 live)) (λ live. nowhere (small_nodes 6) (3 ∷ 31 ∷ []))

abbrev pub IsSmallMap : ℕ → Type 0
IsSmallMap n = IsMap small_holds 2 seed 2 5 (small_nodes n)

-- a live node leads to each live one that is no root
abbrev pub Reached : ℕ → Type 0
Reached n = (i : ℕ) → state_at (small_nodes n) i ≡ Live → 2 ≤ i → IsReached 1 (small_nodes n) i

pub reached_1 : Reached 1
reached_1 = reached 3 4 4 Live Live Free
    (λ live. record { from = 1; link = 0; live = refl; inside = omega arith; leads = refl })
    (λ live. record { from = 2; link = 0; live = refl; inside = omega arith; leads = refl })
    (λ live. absurd (free_is_not_live live))

pub reached_3 : Reached 3
reached_3 = reached 5 4 4 Unlinked Live Live (λ live. absurd (unlinked_is_not_live live))
    (λ live. record { from = 4; link = 0; live = refl; inside = omega arith; leads = refl })
    (λ live. record { from = 1; link = 0; live = refl; inside = omega arith; leads = refl })

pub reached_5 : Reached 5
reached_5 = reached 5 4 0 Unlinked Unlinked Live (λ live. absurd (unlinked_is_not_live live))
    (λ live. absurd (unlinked_is_not_live live))
    (λ live. record { from = 1; link = 0; live = refl; inside = omega arith; leads = refl })

pub map_0 : IsSmallMap 0
map_0 = record {
  few = refl;
  tended = record {
    rooted = rooted 3 0 4 Live Free Free;
    whole = whole 3 0 4 Live Free Free;
    led = led_0;
    reached = reached 3 0 4 Live Free Free (λ live.
        record { from = 1; link = 0; live = refl; inside = omega arith; leads = refl })
        (λ live. absurd (free_is_not_live live)) (λ live. absurd (free_is_not_live live));
  };
  roots = roots 3 0 4 Live Free Free;
  linked = linked 3 0 4 Live Free Free;
  next = next 3 0 4 Live Free Free (λ live. record { to = 2; leads = refl; near = omega arith })
      (λ live. absurd (free_is_not_live live)) (λ live. absurd (free_is_not_live live))
      (λ live other. absurd (free_is_not_live other))
      (λ live other. absurd (free_is_not_live live));
  apart = apart 3 0 4 Live Free Free (λ live other. free_is_not_live other);
}

pub map_1 : IsSmallMap 1
map_1 = record {
  few = refl;
  tended = record {
    rooted = rooted 3 4 4 Live Live Free;
    whole = whole 3 4 4 Live Live Free;
    led = led_1;
    reached = reached_1;
  };
  roots = roots 3 4 4 Live Live Free;
  linked = linked 3 4 4 Live Live Free;
  next = next 3 4 4 Live Live Free (λ live. record { to = 2; leads = refl; near = omega arith })
      (λ live. record { to = 2; leads = refl; near = omega arith })
      (λ live. absurd (free_is_not_live live))
      (λ live other. record { to = 3; leads = refl; near = omega arith })
      (λ live other. absurd (free_is_not_live live));
  apart = apart 3 4 4 Live Live Free (λ live other. free_is_not_live other);
}

pub map_3 : IsSmallMap 3
map_3 = record {
  few = refl;
  tended = record {
    rooted = rooted 5 4 4 Unlinked Live Live;
    whole = whole 5 4 4 Unlinked Live Live;
    led = led_3;
    reached = reached_3;
  };
  roots = roots 5 4 4 Unlinked Live Live;
  linked = linked 5 4 4 Unlinked Live Live;
  next = next 5 4 4 Unlinked Live Live (λ live. absurd (unlinked_is_not_live live))
      (λ live. record { to = 4; leads = refl; near = omega arith })
      (λ live. record { to = 4; leads = refl; near = omega arith })
      (λ live other. absurd (unlinked_is_not_live live))
      (λ live other. record { to = 3; leads = refl; near = omega arith });
  apart = apart 5 4 4 Unlinked Live Live (λ live other. unlinked_is_not_live live);
}

pub map_5 : IsSmallMap 5
map_5 = record {
  few = refl;
  tended = record {
    rooted = rooted 5 4 0 Unlinked Unlinked Live;
    whole = whole 5 4 0 Unlinked Unlinked Live;
    led = led_5;
    reached = reached_5;
  };
  roots = roots 5 4 0 Unlinked Unlinked Live;
  linked = linked 5 4 0 Unlinked Unlinked Live;
  next = next 5 4 0 Unlinked Unlinked Live (λ live. absurd (unlinked_is_not_live live))
      (λ live. absurd (unlinked_is_not_live live))
      (λ live. record { to = 4; leads = refl; near = omega arith })
      (λ live other. absurd (unlinked_is_not_live live))
      (λ live other. absurd (unlinked_is_not_live other));
  apart = apart 5 4 0 Unlinked Unlinked Live (λ live other. unlinked_is_not_live live);
}

pub map_6 : IsSmallMap 6
map_6 = record {
  few = refl;
  tended = record {
    rooted = rooted 5 4 0 (Retired 5) (Retired 5) Live;
    whole = whole 5 4 0 (Retired 5) (Retired 5) Live;
    led = led_6;
    reached = reached 5 4 0 (Retired 5) (Retired 5) Live
        (λ live. absurd (retired_is_not_live 5 live))
        (λ live. absurd (retired_is_not_live 5 live))
        (λ live. record { from = 1; link = 0; live = refl; inside = omega arith; leads = refl });
  };
  roots = roots 5 4 0 (Retired 5) (Retired 5) Live;
  linked = linked 5 4 0 (Retired 5) (Retired 5) Live;
  next = next 5 4 0 (Retired 5) (Retired 5) Live (λ live. absurd (retired_is_not_live 5 live))
      (λ live. absurd (retired_is_not_live 5 live))
      (λ live. record { to = 4; leads = refl; near = omega arith })
      (λ live other. absurd (retired_is_not_live 5 live))
      (λ live other. absurd (retired_is_not_live 5 other));
  apart = apart 5 4 0 (Retired 5) (Retired 5) Live (λ live other. retired_is_not_live 5 live);
}

-- with both the old node and the new one live, the nodes are those of no map
pub no_map_between : IsSmallMap 2 → ⊥
no_map_between m =
    let same : 2 ≡ 4 = m.apart 2 4 (record { first = refl; second = refl; same = refl }) refl in
    omega (arith, same)
