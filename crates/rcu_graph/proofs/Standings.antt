-- Properties of the states of nodes are properties of the nodes.
use Rattle.std.proofs.Common.{◌≡◌, ◌<◌, ◌≤◌, ℕ, zero, suc, Bool, true, false, List, [], ◌∷◌, length}
use Rattle.std.proofs.Common.{subst, sym, ap, ◌∙◌, arith}
use Rattle.std.specs.Prelude.{if◌then◌else◌, nat_lt, IfNone, IfSome, None, Option, Some}
use Rattle.std.proofs.Common.{map}
use Rattle.std.specs.List.{range_with_len}
use Rattle.std.proofs.Math.ListN.{get_or-map}
use Rattle.rcu_seq.specs.Numbers.{Number}
use Rattle.rcu_live.specs.Numbers.{is_past}
use Rattle.rcu_graph.specs.Cycle.{state_in}
use Rattle.rcu_graph.specs.Mirror.{AreBy, nodes_of}
use Rattle.rcu_graph.specs.Nodes.{IsBy, first_node, first_nodes, free_node, no_node, reclaimed}
use Rattle.rcu_graph.specs.Nodes.{reclaimed_node, reclaimed_state, root, state_at}
use Rattle.rcu_graph.specs.Tended.{AreAllUsed}
use Rattle.rcu_graph.specs.declared.known.Node.{Node}
use Rattle.rcu_graph.specs.declared.node_state.NodeState.{NodeState}
use Rattle.rcu_graph.specs.declared.node_state.NodeState.TheVariants.{Free, Live, Retired, Unlinked}
use Rattle.rcu_graph.proofs.Mirrors.{length-nodes_of, state_of}

module _ (links width : ℕ) (states : List NodeState) (cells words : List ℕ) (nodes : List Node)
    (same : nodes_of links width states cells words ≡ nodes) where
  pub state_is : (i : ℕ) → state_in states i ≡ state_at nodes i
  state_is i =
      sym (state_of links width states cells words i) ∙ ap (λ (l : List Node). state_at l i) same

  pub states_by : (number : Number) → AreBy number nodes → (i : ℕ) → i < length states
      → IsBy number (state_in states i)
  states_by number by i low = subst (λ (s : NodeState). IsBy number s) (sym (state_is i)) (by i)

  pub node_free : (o : Option ℕ) → IfSome o (λ i. state_in states i ≡ Free)
      → IfSome o (λ i. state_at nodes i ≡ Free)
  node_free None h = h
  node_free (Some i) h = sym (state_is i) ∙ h

  pub none_free : (count : ℕ) → length states ≡ count → (o : Option ℕ)
      → IfNone o ((i : ℕ) → i < count → state_in states i ≡ Free → ⊥) → IfNone o (AreAllUsed nodes)
  none_free count few None h = λ i low free.
      let many : length nodes ≡ length states =
      ap (λ (l : List Node). length l) (sym same)
      ∙ length-nodes_of links width states cells words in
      h i (omega (arith, low, many, few)) (state_is i ∙ free)
  none_free count few (Some i) h = h

by_reclaimed_state : (latest number : Number) (s : NodeState) → latest ≤ number → IsBy latest s
    → IsBy number (reclaimed_state number number s)
by_reclaimed_state latest number Free late by = tt
by_reclaimed_state latest number Live late by = tt
by_reclaimed_state latest number Unlinked late by = omega arith
by_reclaimed_state latest number (Retired at) late by = go (is_past at number)
  where
    go : (b : Bool) → IsBy number (if b then Free else Retired at)
    go true = tt
    go false = let low : at ≤ latest = by in omega (arith, low, late)

pub by_reclaimed : (latest number : Number) (nodes : List Node) → latest ≤ number
    → AreBy latest nodes
    → AreBy number (reclaimed number number nodes)
by_reclaimed latest number nodes late by i =
    subst (λ (v : Node). IsBy number v.state)
    (sym (get_or-map (reclaimed_node number number) nodes i no_node))
    (by_reclaimed_state latest number (state_at nodes i) late (by i))

by_all : (number : Number) (f : ℕ → Node) → ((i : ℕ) → IsBy number (f i).state) → (l : List ℕ)
    → AreBy number (map f l)
by_all number f each [] i = tt
by_all number f each (x ∷ l) zero = each x
by_all number f each (x ∷ l) (suc i) = by_all number f each l i

pub by_first : (links width : ℕ) (first : ℕ → List ℕ) (roots count : ℕ)
    → AreBy 0 (first_nodes links width first roots count)
by_first links width first roots count = by_all 0 (first_node links width first roots)
    (λ i. go i (nat_lt i roots)) (range_with_len 0 count)
  where
    go : (i : ℕ) (b : Bool)
        → IsBy 0 (if b then root links (first i) else free_node links width).state
    go i true = tt
    go i false = tt
