use Rattle.std.proofs.Common.{◌≡◌, ◌<◌, ◌∙◌, List, ℕ, ap, arith, length, subst, sym}
use Rattle.rcu_graph.specs.Mirror.{with_words}
use Rattle.rcu_graph.specs.Nodes.{first_nodes, in_state, renewed, state_at}
use Rattle.rcu_graph.specs.declared.known.Node.{Node}
use Rattle.rcu_graph.specs.declared.node_state.NodeState.TheVariants.{Live}
use Rattle.rcu_graph.specs.declared.plan.Plan.{Plan}
use Rattle.rcu_graph.proofs.FirstNodes.{first_at, is_free, none_first, one_first}
use Rattle.rcu_graph.proofs.mirror.Mirror.new.Goals as goal

pub loop-root-init : goal.loop-root-init
loop-root-init g c =
    let p : Plan = c.args.plan in
    record {
      plan = c.in_ok-mirror.ensures.plan;
      nodes =
          c.in_ok-mirror.ensures.nodes
          ∙ none_first p.links p.words p.nodes (g.F.Shape.first p);
    }

-- the next root is free still
pub publish-requires-clause-free : goal.publish-requires-clause-free
publish-requires-clause-free g c =
    let p : Plan = c.args.plan in
    let i = c.loop-root.root in
    let low : i < p.nodes =
    (let test = c.loop-root-test.true in omega (arith, test, c.requires.roots)) in
    ap (λ (l : List Node). state_at l i) c.loop-root.invariant.nodes
    ∙ ap (λ (v : Node). v.state)
    (first_at p.links p.words p.nodes (g.F.Shape.first p) i i low
    ∙ is_free p.links p.words p.nodes (g.F.Shape.first p) i i (omega arith))

pub set_first_words-requires-clause-sized : goal.set_first_words-requires-clause-sized
set_first_words-requires-clause-sized g c =
    subst (λ (q : Plan). length (g.F.Shape.first q c.loop-root.root) ≡ q.words)
    (sym (c.publish.ensures.plan ∙ c.loop-root.invariant.plan))
    (c.requires.first c.loop-root.root c.loop-root-test.true)

pub loop-root-preserved : goal.loop-root-preserved
loop-root-preserved g c =
    let p : Plan = c.args.plan in
    let i = c.loop-root.root in
    let low = c.loop-root-test.true in
    let is = c.publish.ensures.plan ∙ c.loop-root.invariant.plan in
    record {
      plan = c.set_first_words.ensures.plan ∙ is;
      nodes =
          c.set_first_words.ensures.nodes
          ∙ (ap (λ (q : Plan).
          renewed c.publish.new.self.nodes i (with_words (g.F.Shape.first q i))) is
          ∙ (ap (λ (l : List Node). renewed l i (with_words (g.F.Shape.first p i)))
          (c.publish.ensures.nodes
          ∙ ap (λ (l : List Node). renewed l i (in_state Live)) c.loop-root.invariant.nodes)
          ∙ one_first p.links p.words p.nodes (g.F.Shape.first p) i
          (omega (arith, low, c.requires.roots))));
    }

pub returns-clause-nodes : goal.returns-clause-nodes
returns-clause-nodes g c =
    let p : Plan = c.args.plan in
    c.loop-root.invariant.nodes
    ∙ ap (λ (n : ℕ). first_nodes p.links p.words (g.F.Shape.first p) n p.nodes)
    (omega (arith, c.loop-root-test.false, c.loop-root.auto.root-end))
