use Rattle.std.proofs.Common.{◌≡◌, ◌∙◌, ◌+◌, ◌<◌, ◌∷◌, ℕ, List, ap, arith, drop, subst, sym}
use Rattle.std.specs.Prelude.{slice_index}
use Rattle.rcu_graph.specs.Nodes.{node_at, nodes_in}
use Rattle.rcu_graph.specs.Collecting.{IsCollecting}
use Rattle.rcu_graph.specs.declared.known.Node.{Node}
use Rattle.rcu_graph.specs.declared.plan.Plan.{Plan}
use Rattle.rcu_graph.proofs.Cascade.{next_link, no_link_more, no_step, step_on}
use Rattle.rcu_graph.proofs.counted_nodes.CountedNodes.release_links_of.Goals as goal

pub loop-link-init : goal.loop-link-init
loop-link-init g c = record {
  graph = c.requires.graph;
  state = no_step c.args.self.now.nodes c.plan-plan.ensures.keeps;
  collecting = λ stored from t. t;
}

pub release_link-gone-requires : goal.release_link-gone-requires
release_link-gone-requires g c =
    let i = c.loop-link.invariant in
    let t = c.requires.collecting in
    let l = c.loop-link.link in
    let p : Plan = c.args.graph.now.plan in
    let low : l < p.links =
    subst (λ (q : Plan). l < q.links) c.plan-plan.ensures.plan c.loop-link-test.true in
    let nodes : List Node = nodes_in c.loop-link.self.nodes.view.client.known in
    let rest : List ℕ = drop (l + 1) (node_at t.0 c.args.node).links in
    record {
      graph = i.graph;
      collecting = (
        t.0,
        t.1,
        rest,
        subst (λ (w : ℕ). IsCollecting p.nodes p.roots p.links t.0 nodes
            c.loop-link.self.counts.items c.loop-link.self.unlinking.items t.1 c.loop-link.gone
            (w ∷ rest))
            (sym (c.link-word.ensures
            ∙ ap (λ (ns : List Node). slice_index (node_at ns c.args.node).links l)
            c.mirror.ensures.nodes))
            (next_link p.nodes p.roots p.links t.0 nodes c.loop-link.self.counts.items
            c.loop-link.self.unlinking.items t.1 c.loop-link.gone c.args.node c.requires.node l low
            (i.collecting t.0 t.1 t.2)),
      );
    }

pub loop-link-preserved : goal.loop-link-preserved
loop-link-preserved g c =
    let i = c.loop-link.invariant in
    let l = c.loop-link.link in
    let nodes : List Node = nodes_in c.loop-link.self.nodes.view.client.known in
    record {
      graph = c.release_link-gone.ensures.graph;
      state =
          step_on c.args.self.now.nodes c.loop-link.self.nodes
          c.release_link-gone.new.self.nodes
          i.state c.release_link-gone.ensures.state;
      collecting = λ stored from t.
          let rest : List ℕ = drop (l + 1) (node_at stored c.args.node).links in
          c.release_link-gone.ensures.collecting stored from rest
          (subst (λ (w : ℕ). IsCollecting c.args.graph.now.plan.nodes c.args.graph.now.plan.roots
          c.args.graph.now.plan.links stored nodes
          c.loop-link.self.counts.items c.loop-link.self.unlinking.items from c.loop-link.gone
          (w ∷ rest))
          (sym (c.link-word.ensures
          ∙ ap (λ (ns : List Node). slice_index (node_at ns c.args.node).links l)
          c.mirror.ensures.nodes))
          (next_link c.args.graph.now.plan.nodes c.args.graph.now.plan.roots
          c.args.graph.now.plan.links stored nodes c.loop-link.self.counts.items
          c.loop-link.self.unlinking.items from c.loop-link.gone c.args.node c.requires.node l
          (subst (λ (q : Plan). l < q.links) c.plan-plan.ensures.plan c.loop-link-test.true)
          (i.collecting stored from t)));
    }

pub returns-clause-graph : goal.returns-clause-graph
returns-clause-graph g c = c.loop-link.invariant.graph

pub returns-clause-state : goal.returns-clause-state
returns-clause-state g c = c.loop-link.invariant.state

pub returns-clause-collecting : goal.returns-clause-collecting
returns-clause-collecting g c = λ stored from t.
    let nodes : List Node = nodes_in c.loop-link.self.nodes.view.client.known in
    let end : c.loop-link.link ≡ c.args.graph.now.plan.links =
    (let links = ap (λ (q : Plan). q.links) c.plan-plan.ensures.plan in
    omega (arith, links, c.loop-link-test.false, c.loop-link.auto.link-end)) in
    no_link_more c.args.graph.now.plan.nodes c.args.graph.now.plan.roots c.args.graph.now.plan.links
    stored nodes c.loop-link.self.counts.items
    c.loop-link.self.unlinking.items from c.loop-link.gone c.args.node c.requires.node
    (subst (λ (n : ℕ). IsCollecting c.args.graph.now.plan.nodes c.args.graph.now.plan.roots
    c.args.graph.now.plan.links stored nodes c.loop-link.self.counts.items
    c.loop-link.self.unlinking.items from c.loop-link.gone
    (drop n (node_at stored c.args.node).links))
    end (c.loop-link.invariant.collecting stored from t))
