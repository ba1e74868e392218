-- The stored nodes: after a node was put in, and after a link was led past one.
use Rattle.std.proofs.Common.{◌≡◌, ◌≢◌, ℕ, suc, ◌<◌, List, [], ◌∷◌, Option, length, map, refl, sym}
use Rattle.std.proofs.Common.{ap, ◌∙◌, arith, length-set}
use Rattle.std.specs.Prelude.{slice_index}
use Rattle.std.proofs.lemmas.List.{get_or-set_same}
use mathlib.Core.Logic.{dite}
use native.Mathlib.Decide.{ℕ_discrete}
use Rattle.rcu_graph.specs.Graph.{word_to}
use Rattle.rcu_graph.specs.Nodes.{in_state, linked_to, node_at}
use Rattle.rcu_graph.specs.Tended.{filled_with, relinked}
use Rattle.rcu_graph.specs.declared.known.Node.{Node}
use Rattle.rcu_graph.specs.declared.node_state.NodeState.TheVariants.{Live}
use Rattle.rcu_graph.proofs.Counting.{kept_at, other_node, same_node}
use Rattle.rcu_graph.proofs.PutNodes.{before, elsewhere, here}
use Rattle.rcu_graph.specs.Puts.{put}
use Rattle.rcu_map.proofs.Gaps.{IsPassed, IsPut}

module _ (A : List Node) (previous : ℕ) (inside : previous < length A)
    (single : length (node_at A previous).links ≡ 1) where
  pub is_passed : (next : Option ℕ)
      → IsPassed A (relinked A previous 0 next) previous (word_to next)
  is_passed next = record {
    states =
        λ i. kept_at (λ (v : Node). v.state) A previous i (linked_to 0 (word_to next)) inside refl;
    same =
        λ i. kept_at (λ (v : Node). v.words) A previous i (linked_to 0 (word_to next)) inside refl;
    led =
        ap (λ (v : Node). slice_index v.links 0)
        (same_node A previous (linked_to 0 (word_to next)) inside)
        ∙ get_or-set_same (node_at A previous).links 0 (word_to next) 0 (omega (arith, single));
    leads = λ i ne. ap (λ (v : Node). slice_index v.links 0)
        (other_node A previous i (linked_to 0 (word_to next)) ne);
    linked = λ i. kept_at (λ (v : Node). length v.links) A previous i (linked_to 0 (word_to next))
        inside (length-set (node_at A previous).links 0 (word_to next));
  }

  module _ (node : ℕ) (words : List ℕ) (next : Option ℕ) (low : node < length A)
      (apart : node ≢ previous) where
    abbrev after : List Node
    after = put A previous node words next

    at_node : node_at after node
        ≡ in_state Live (filled_with (map word_to (next ∷ [])) words (node_at A node))
    at_node = here A previous inside node words next low apart

    at_previous : node_at after previous ≡ linked_to 0 (suc node) (node_at A previous)
    at_previous = before A previous inside node words next low apart

    at_other : (i : ℕ) → i ≢ node → i ≢ previous → node_at after i ≡ node_at A i
    at_other = elsewhere A previous inside node words next low apart

    -- all nodes but the new one keep the parts that a link does not change
    stays : {X : Type 0} (part : Node → X)
        → part (linked_to 0 (suc node) (node_at A previous)) ≡ part (node_at A previous)
        → (i : ℕ) → i ≢ node
        → part (node_at after i) ≡ part (node_at A i)
    stays part same i ni = dite (ℕ_discrete i previous)
        (λ (is : i ≡ previous). ap (λ (n : ℕ). part (node_at after n)) is
        ∙ (ap part at_previous ∙ (same ∙ ap (λ (n : ℕ). part (node_at A n)) (sym is))))
        (λ (np : i ≢ previous). ap part (at_other i ni np))

    pub is_put : IsPut A (put A previous node words next) previous node words (word_to next)
    is_put = record {
      live = ap (λ (v : Node). v.state) at_node;
      states = stays (λ (v : Node). v.state) refl;
      is = ap (λ (v : Node). v.words) at_node;
      same = stays (λ (v : Node). v.words) refl;
      onward = ap (λ (v : Node). slice_index v.links 0) at_node;
      led = ap (λ (v : Node). slice_index v.links 0) at_previous
          ∙ get_or-set_same (node_at A previous).links 0 (suc node) 0 (omega (arith, single));
      leads = λ i ni np. ap (λ (v : Node). slice_index v.links 0) (at_other i ni np);
      one = ap (λ (v : Node). length v.links) at_node;
      linked =
          stays (λ (v : Node). length v.links) (length-set (node_at A previous).links 0 (suc node));
    }
