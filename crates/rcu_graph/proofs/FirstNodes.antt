-- The nodes at first, a root after another.
use Rattle.std.proofs.Common.{◌≡◌, ◌≢◌, ℕ, ◌+◌, ◌<◌, ◌≤◌, Bool, true, false, List, length, get_or}
use Rattle.std.proofs.Common.{replicate, set, sym, ap, ◌∙◌, arith, length-set}
use Rattle.std.specs.Prelude.{if◌then◌else◌, nat_lt}
use Rattle.std.proofs.lemmas.Bool.Decides.{nat_tests}
use Rattle.std.proofs.lemmas.List.{ext_get_or, get_or-replicate, get_or-set_other, get_or-set_same}
use Rattle.std.proofs.lemmas.List.{length-replicate}
use Rattle.std.proofs.lemmas.List.FromFn.{get_or-map-range_with_len, length-map-range_with_len}
use mathlib.Core.Logic.{dite}
use native.Mathlib.Decide.{ℕ_discrete}
use Rattle.rcu_graph.specs.Mirror.{with_words}
use Rattle.rcu_graph.specs.Nodes.{first_node, first_nodes, free_node, in_state, no_node, node_at}
use Rattle.rcu_graph.specs.Nodes.{renewed, root}
use Rattle.rcu_graph.specs.declared.known.Node.{Node}
use Rattle.rcu_graph.specs.declared.node_state.NodeState.TheVariants.{Live}
use Rattle.rcu_graph.proofs.Mirrors.{renewed_twice}

pub is_below : (i n : ℕ) → i < n → nat_lt i n ≡ true
is_below i n e = grind (arith, nat_tests)

pub below : (i n : ℕ) → nat_lt i n ≡ true → i < n
below i n e = grind (arith, nat_tests)

pub not_below : (i n : ℕ) → n ≤ i → nat_lt i n ≡ false
not_below i n e = grind (arith, nat_tests)

module _ (links width count : ℕ) (first : ℕ → List ℕ) where
  one : ℕ → ℕ → Node
  one roots i = first_node links width first roots i

  pub is_root : (roots i : ℕ) → i < roots
      → first_node links width first roots i ≡ root links (first i)
  is_root roots i low = ap (λ (b : Bool). if b then root links (first i) else free_node links width)
      (is_below i roots low)

  pub is_free : (roots i : ℕ) → roots ≤ i
      → first_node links width first roots i ≡ free_node links width
  is_free roots i high =
      ap (λ (b : Bool). if b then root links (first i) else free_node links width)
      (not_below i roots high)

  pub first_at : (roots i : ℕ) → i < count
      → node_at (first_nodes links width first roots count) i ≡ first_node links width first roots i
  first_at roots i low = get_or-map-range_with_len (first_node links width first roots) 0 count i i
      no_node low (omega arith)

  pub many_first : (roots : ℕ) → length (first_nodes links width first roots count) ≡ count
  many_first roots = length-map-range_with_len (first_node links width first roots) 0 count

  pub none_first : replicate count (free_node links width) ≡ first_nodes links width first 0 count
  none_first =
      ext_get_or no_node (replicate count (free_node links width))
      (first_nodes links width first 0 count)
      (length-replicate count (free_node links width) ∙ sym (many_first 0))
      (λ j low.
      let small = length-replicate count (free_node links width) in
      let inside : j < count = omega (arith, low, small) in
      get_or-replicate count j (free_node links width) no_node inside
      ∙ sym (first_at 0 j inside ∙ is_free 0 j (omega arith)))

  one_more : (i : ℕ)
      → i < count
      → set (first_nodes links width first i count) i (root links (first i))
      ≡ first_nodes links width first (i + 1) count
  one_more i low =
      let old : List Node = first_nodes links width first i count in
      let many = many_first i in
      ext_get_or no_node (set old i (root links (first i)))
      (first_nodes links width first (i + 1) count)
      (length-set old i (root links (first i)) ∙ (many ∙ sym (many_first (i + 1))))
      (λ j small.
      let long = length-set old i (root links (first i)) in
      let inside : j < count = omega (arith, small, long, many) in
      dite (ℕ_discrete j i)
      (λ (is : j ≡ i).
      ap (λ (k : ℕ). get_or (set old i (root links (first i))) k no_node) is
      ∙ (get_or-set_same old i (root links (first i)) no_node (omega (arith, low, many))
      ∙ (sym (is_root (i + 1) i (omega arith))
      ∙ (ap (λ (k : ℕ). first_node links width first (i + 1) k) (sym is)
      ∙ sym (first_at (i + 1) j inside)))))
      (λ (ne : j ≢ i). get_or-set_other old i j (root links (first i)) no_node ne
      ∙ (first_at i j inside ∙ (alike i j ne ∙ sym (first_at (i + 1) j inside)))))
    where
      alike : (i j : ℕ) → j ≢ i
          → first_node links width first i j ≡ first_node links width first (i + 1) j
      alike i j ne =
          ap (λ (b : Bool). if b then root links (first j) else free_node links width) (same i j ne)
        where
          same : (i j : ℕ) → j ≢ i → nat_lt j i ≡ nat_lt j (i + 1)
          same i j ne = grind (arith, nat_tests)

  -- a root more is live, with its words
  pub one_first : (i : ℕ)
      → i < count
      → renewed (renewed (first_nodes links width first i count) i (in_state Live)) i
      (with_words (first i))
      ≡ first_nodes links width first (i + 1) count
  one_first i low =
      let old : List Node = first_nodes links width first i count in
      renewed_twice old i (in_state Live) (with_words (first i))
      (let many = many_first i in omega (arith, low, many))
      ∙ (ap (λ (v : Node). set old i (with_words (first i) (in_state Live v)))
      (first_at i i low ∙ is_free i i (omega arith))
      ∙ one_more i low)
