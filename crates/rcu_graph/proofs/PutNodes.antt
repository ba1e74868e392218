-- The nodes as they are stored after a node was put behind another one.
use Rattle.std.proofs.Common.{◌≡◌, ◌≢◌, ℕ, suc, ◌<◌, List, [], ◌∷◌, Option, length, map, sym, ap}
use Rattle.std.proofs.Common.{◌∙◌, arith, length-set}
use Rattle.rcu_graph.specs.Graph.{word_to}
use Rattle.rcu_graph.specs.Nodes.{in_state, linked_to, node_at, renewed}
use Rattle.rcu_graph.specs.Puts.{put}
use Rattle.rcu_graph.specs.Tended.{filled_with}
use Rattle.rcu_graph.specs.declared.known.Node.{Node}
use Rattle.rcu_graph.specs.declared.node_state.NodeState.TheVariants.{Live}
use Rattle.rcu_graph.proofs.Counting.{other_node, same_node}

module _ (A : List Node) (previous : ℕ) (inside : previous < length A) (node : ℕ) (words : List ℕ)
    (next : Option ℕ) (low : node < length A) (apart : node ≢ previous) where
  abbrev pub written : Node → Node
  written = filled_with (map word_to (next ∷ [])) words

  abbrev filled : List Node
  filled = renewed A node written

  abbrev live_then : List Node
  live_then = renewed filled node (in_state Live)

  few : length filled ≡ length A
  few = length-set A node (written (node_at A node))

  few_then : length live_then ≡ length A
  few_then = length-set filled node (in_state Live (node_at filled node)) ∙ few

  pub few_put : length (put A previous node words next) ≡ length A
  few_put =
      length-set live_then previous (linked_to 0 (suc node) (node_at live_then previous))
      ∙ few_then

  new_node : node_at live_then node ≡ in_state Live (written (node_at A node))
  new_node =
      same_node filled node (in_state Live) (omega (arith, low, few))
      ∙ ap (in_state Live) (same_node A node written low)

  others : (i : ℕ) → i ≢ node → node_at live_then i ≡ node_at A i
  others i ne = other_node filled node i (in_state Live) ne ∙ other_node A node i written ne

  pub here : node_at (put A previous node words next) node
      ≡ in_state Live (written (node_at A node))
  here = other_node live_then previous node (linked_to 0 (suc node)) apart ∙ new_node

  pub before : node_at (put A previous node words next) previous
      ≡ linked_to 0 (suc node) (node_at A previous)
  before = same_node live_then previous (linked_to 0 (suc node)) (omega (arith, inside, few_then))
      ∙ ap (linked_to 0 (suc node)) (others previous (λ is. apart (sym is)))

  pub elsewhere : (i : ℕ) → i ≢ node → i ≢ previous
      → node_at (put A previous node words next) i ≡ node_at A i
  elsewhere i ni np = other_node live_then previous i (linked_to 0 (suc node)) np ∙ others i ni
