-- The conditions of a writer's steps on chains.
use Rattle.std.proofs.Common.{◌≡◌, ◌≢◌, ℕ, zero, suc, ◌<◌, List, [], ◌∷◌, Option, Some, None}
use Rattle.std.proofs.Common.{length, map, refl, sym, ap, ◌∙◌, subst, arith}
use Rattle.std.specs.Prelude.{All, IfSome, slice_index, slice_index_or}
use Rattle.rcu_live.specs.Watcher.{Watching}
use Rattle.rcu_graph.specs.Graph.{word_to}
use Rattle.rcu_graph.specs.Writer.{IsReady}
use Rattle.rcu_graph.specs.Nodes.{IsTarget, node_at, nodes_in, renewed, state_at}
use Rattle.rcu_graph.specs.Puts.{AreKept, CanPut}
use Rattle.rcu_graph.specs.Tended.{AreTended, filled_with}
use Rattle.rcu_graph.specs.declared.known.Planned.{Planned}
use Rattle.rcu_graph.specs.declared.known.Node.{Node}
use Rattle.rcu_graph.specs.declared.node_state.NodeState.{NodeState}
use Rattle.rcu_graph.specs.declared.node_state.NodeState.TheVariants.{Free, Live}
use Rattle.rcu_graph.proofs.Counting.{live_inside, other_node, same_node}
use Rattle.rcu_graph.proofs.Tending.{at_here, here_at}
use Rattle.rcu_graph.specs.declared.plan.Plan.{Plan}

pub free_or_live : (s : NodeState) → s ≡ Free → s ≡ Live → ⊥
free_or_live s a b = cc

-- a live node is not a free one
pub not_free : (A : List Node) (node i : ℕ) → state_at A node ≡ Free → state_at A i ≡ Live
    → i ≢ node
not_free A node i free live is =
    free_or_live (state_at A node) free (ap (λ (n : ℕ). state_at A n) (sym is) ∙ live)

-- a list of one link that leads to one of this number of nodes, or nowhere
pub one_inside : (count : ℕ) (next : Option ℕ) → ((j : ℕ) → word_to next ≡ suc j → j < count)
    → All (λ to. IfSome to (λ other. other < count)) (next ∷ [])
one_inside count next low k d inside = go next low k inside
  where
    go : (o : Option ℕ) → ((j : ℕ) → word_to o ≡ suc j → j < count) → (k : ℕ) → k < 1
        → IfSome (slice_index_or (o ∷ []) k d) (λ other. other < count)
    go None low zero inside = tt
    go (Some j) low zero inside = low j refl
    go o low (suc k) inside = absurd (omega (arith, inside))

-- of a target: it is live, and the words join
pub target_there : (joins : List ℕ → List ℕ → Type 0) (words : List ℕ) (nodes : List Node) (x j : ℕ)
    → IsTarget joins words nodes x → x ≡ suc j
    → (state_at nodes j ≡ Live) × joins words (node_at nodes j).words
target_there joins words nodes x j t e =
    let r = t j e in
    let same : node_at nodes j ≡ r.0 = at_here nodes j r.0 r.1 in (
      ap (λ (v : Node). v.state) same ∙ r.2,
      subst (λ (v : Node). joins words v.words) (sym same) r.3,
    )

pub target_of : (joins : List ℕ → List ℕ → Type 0) (words : List ℕ) (nodes : List Node) (x : ℕ)
    → ((j : ℕ) → x ≡ suc j → (state_at nodes j ≡ Live) × joins words (node_at nodes j).words)
    → IsTarget joins words nodes x
target_of joins words nodes x there j e =
    let r = there j e in
    (node_at nodes j, here_at nodes j (live_inside nodes j r.0), r.0, r.1)

-- nodes are still kept, if a writer of the same plan tends as many
pub are_kept : (fits : Plan → List ℕ → Type 0) (joins : Plan → ℕ → List ℕ → List ℕ → Type 0)
    (before now : Watching Planned)
    → now.view.client.plan ≡ before.view.client.plan
    → before.view.client.plan.links ≡ 1
    → length (nodes_in now.view.client.known) ≡ now.view.client.plan.nodes
    → AreTended (fits now.view.client.plan) (joins now.view.client.plan)
    now.view.client.plan.roots now.view.client.plan.links (nodes_in now.view.client.known)
    → AreKept (fits before.view.client.plan) (joins before.view.client.plan)
    before.view.client.plan.roots before.view.client.plan.nodes (nodes_in now.view.client.known)
are_kept fits joins before now planned one few tended =
    let p : Plan = before.view.client.plan in
    record {
      few = few ∙ ap (λ (q : Plan). q.nodes) planned;
      tended =
          subst (λ (links : ℕ). AreTended (fits p) (joins p) p.roots links
          (nodes_in now.view.client.known))
          one
          (subst (λ (q : Plan). AreTended (fits q) (joins q) q.roots q.links
          (nodes_in now.view.client.known))
          planned tended);
    }

module _ (fits : List ℕ → Type 0) (joins : ℕ → List ℕ → List ℕ → Type 0)
    (writer : Watching Planned) (previous : ℕ) (words : List ℕ)
    (next : Option ℕ)
    (can : CanPut fits joins writer previous words next) (node : ℕ)
    (low : node < writer.view.client.plan.nodes)
    (free : state_at (nodes_in writer.view.client.known) node ≡ Free) where
  abbrev A : List Node
  A = nodes_in writer.view.client.known

  abbrev written : Node → Node
  written = filled_with (map word_to (next ∷ [])) words

  inside : node < length A
  inside = let few = can.few in omega (arith, low, few)

  here : node_at (renewed A node written) node ≡ written (node_at A node)
  here = same_node A node written inside

  apart : previous ≢ node
  apart = not_free A node previous free can.live

  pub still_live : state_at (renewed A node written) previous ≡ Live
  still_live = ap (λ (v : Node). v.state) (other_node A node previous written apart) ∙ can.live

  pub joins_it : joins 0 (node_at (renewed A node written) previous).words
      (node_at (renewed A node written) node).words
  joins_it = subst (λ (w : List ℕ). joins 0 (node_at (renewed A node written) previous).words w)
      (sym (ap (λ (v : Node). v.words) here))
      (subst (λ (w : List ℕ). joins 0 w words)
      (sym (ap (λ (v : Node). v.words) (other_node A node previous written apart))) can.joined)

  target : IsTarget (joins 0) words (renewed A node written) (word_to next)
  target = target_of (joins 0) words (renewed A node written) (word_to next)
      (λ j e.
      let r = target_there (joins 0) words A (word_to next) j can.target e in
      let same = other_node A node j written (not_free A node j free r.0) in (
        ap (λ (v : Node). v.state) same ∙ r.0,
        subst (λ (v : Node). joins 0 words v.words) (sym same) r.1,
      ))

  pub is_ready : IsReady fits joins 1 (renewed A node written) node
  is_ready = record {
    free = ap (λ (v : Node). v.state) here ∙ free;
    whole = subst fits (sym (ap (λ (v : Node). v.words) here)) can.whole;
    led = λ l small.
        let first : l ≡ 0 = omega (arith, small) in
        subst
        (λ (v : Node). IsTarget (joins l) v.words (renewed A node written) (slice_index v.links l))
        (sym here)
        (subst (λ (n : ℕ).
        IsTarget (joins n) words (renewed A node written) (slice_index (map word_to (next ∷ [])) n))
        (sym first) target);
  }

  pub previous_inside : previous < writer.view.client.plan.nodes
  previous_inside =
      let bound = live_inside A previous can.live in let few = can.few in omega (arith, bound, few)

  pub next_inside : (j : ℕ) → word_to next ≡ suc j → j < writer.view.client.plan.nodes
  next_inside j e =
      let r = target_there (joins 0) words A (word_to next) j can.target e in
      let bound = live_inside A j r.0 in let few = can.few in omega (arith, bound, few)
