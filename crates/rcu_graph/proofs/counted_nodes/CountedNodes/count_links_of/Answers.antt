use Rattle.std.proofs.Common.{◌≡◌, ◌∙◌, ◌+◌, ◌<◌, ℕ, List, ap, arith, get_or, length, refl, suc}
use Rattle.std.proofs.Common.{sym}
use Rattle.std.specs.Prelude.{nat_eq, slice_index}
use Rattle.rcu_live.specs.Watcher.{Watching}
use Rattle.rcu_graph.specs.Counts.{one_if}
use Rattle.rcu_graph.specs.Nodes.{node_at, nodes_in}
use Rattle.rcu_graph.specs.declared.known.Node.{Node}
use Rattle.rcu_graph.specs.declared.known.Planned.{Planned}
use Rattle.rcu_graph.specs.declared.plan.Plan.{Plan}
use Rattle.rcu_graph.proofs.Cascade.{times_all, times_le, times_more}
use Rattle.rcu_graph.proofs.Counting.{one_same}
use Rattle.rcu_graph.proofs.Tending.{counted_up_at}
use Rattle.rcu_graph.proofs.counted_nodes.CountedNodes.count_links_of.Goals as goal

pub loop-link-init : goal.loop-link-init
loop-link-init g c = record {
  nodes = refl;
  unlinking = refl;
  many = c.requires.many;
  counts = λ k low. omega arith;
}

pub count-requires-clause-inside : goal.count-requires-clause-inside
count-requires-clause-inside g c =
    let i = c.loop-link.invariant in
    let l = c.loop-link.link in
    let links : List ℕ = (node_at (nodes_in c.args.self.now.nodes.view.client.known)
    c.args.node).links in
    let long = (c.plan-plan.ensures.sized c.args.node c.requires.node).0 in
    let row = ap (λ (q : Plan). q.links) c.plan-plan.ensures.plan in
    let here : l < length links = omega (arith, long, row, c.loop-link-test.true) in
    let word_is : c.link-word.result ≡ get_or links l 0 =
    c.link-word.ensures
    ∙ (ap (λ (ns : List Node). slice_index (node_at ns c.args.node).links l)
    c.mirror.ensures.nodes
    ∙ ap
    (λ (w : Watching Planned). slice_index (node_at (nodes_in w.view.client.known)
    c.args.node).links l)
    i.nodes) in
    let inside : (k : ℕ) → c.link-word.result ≡ suc k → k < c.args.graph.now.plan.nodes =
    λ k is. c.requires.inside l 0 here k (sym word_is ∙ is) in
    λ k is. let a = inside k is in omega (arith, a, i.many)

pub count-requires-clause-few : goal.count-requires-clause-few
count-requires-clause-few g c =
    let i = c.loop-link.invariant in
    let l = c.loop-link.link in
    let links : List ℕ = (node_at (nodes_in c.args.self.now.nodes.view.client.known)
    c.args.node).links in
    let long = (c.plan-plan.ensures.sized c.args.node c.requires.node).0 in
    let row = ap (λ (q : Plan). q.links) c.plan-plan.ensures.plan in
    let here : l < length links = omega (arith, long, row, c.loop-link-test.true) in
    let word_is : c.link-word.result ≡ get_or links l 0 =
    c.link-word.ensures
    ∙ (ap (λ (ns : List Node). slice_index (node_at ns c.args.node).links l)
    c.mirror.ensures.nodes
    ∙ ap
    (λ (w : Watching Planned). slice_index (node_at (nodes_in w.view.client.known)
    c.args.node).links l)
    i.nodes) in
    let inside : (k : ℕ) → c.link-word.result ≡ suc k → k < c.args.graph.now.plan.nodes =
    λ k is. c.requires.inside l 0 here k (sym word_is ∙ is) in
    λ k is.
    let low = inside k is in
    let a = i.counts k low in
    let b = times_more links l (suc k) here in
    let d = times_le links (l + 1) (suc k) in
    let one : one_if (nat_eq (get_or links l 0) (suc k)) ≡ 1 =
    one_same (get_or links l 0) (suc k) (sym word_is ∙ is) in
    let few = c.requires.few k low in
    omega (arith, a, b, d, one, few)

pub loop-link-preserved : goal.loop-link-preserved
loop-link-preserved g c =
    let i = c.loop-link.invariant in
    let l = c.loop-link.link in
    let old : List ℕ = c.loop-link.self.counts.items in
    let word = c.link-word.result in
    let links : List ℕ = (node_at (nodes_in c.args.self.now.nodes.view.client.known)
    c.args.node).links in
    let long = (c.plan-plan.ensures.sized c.args.node c.requires.node).0 in
    let row = ap (λ (q : Plan). q.links) c.plan-plan.ensures.plan in
    let here : l < length links = omega (arith, long, row, c.loop-link-test.true) in
    let word_is : word ≡ get_or links l 0 =
    c.link-word.ensures
    ∙ (ap (λ (ns : List Node). slice_index (node_at ns c.args.node).links l)
    c.mirror.ensures.nodes
    ∙ ap
    (λ (w : Watching Planned). slice_index (node_at (nodes_in w.view.client.known)
    c.args.node).links l)
    i.nodes) in
    let inside : (k : ℕ) → word ≡ suc k → k < length old =
    λ k is. let a = c.requires.inside l 0 here k (sym word_is ∙ is) in omega (arith, a, i.many) in
    record {
      nodes = c.count.ensures.nodes ∙ i.nodes;
      unlinking = c.count.ensures.unlinking ∙ i.unlinking;
      many =
          ap (λ (x : List ℕ). length x) c.count.ensures.counts
          ∙ (Rattle.rcu_graph.proofs.Tending.as_many_up old word ∙ i.many);
      counts = λ k low.
          let a = i.counts k low in
          let b = times_more links l (suc k) here in
          let d : slice_index c.count.new.self.counts.items k
          ≡ slice_index old k + one_if (nat_eq word (suc k)) =
          ap (λ (x : List ℕ). slice_index x k) c.count.ensures.counts
          ∙ counted_up_at old word k inside in
          let e : one_if (nat_eq word (suc k)) ≡ one_if (nat_eq (get_or links l 0) (suc k)) =
          ap (λ (x : ℕ). one_if (nat_eq x (suc k))) word_is in
          omega (arith, a, b, d, e);
    }

pub returns-clause-nodes : goal.returns-clause-nodes
returns-clause-nodes g c = c.loop-link.invariant.nodes

pub returns-clause-unlinking : goal.returns-clause-unlinking
returns-clause-unlinking g c = c.loop-link.invariant.unlinking

pub returns-clause-many : goal.returns-clause-many
returns-clause-many g c = c.loop-link.invariant.many

pub returns-clause-counts : goal.returns-clause-counts
returns-clause-counts g c = λ k low.
    let a = c.loop-link.invariant.counts k low in
    let links : List ℕ = (node_at (nodes_in c.args.self.now.nodes.view.client.known)
    c.args.node).links in
    let long = (c.plan-plan.ensures.sized c.args.node c.requires.node).0 in
    let row = ap (λ (q : Plan). q.links) c.plan-plan.ensures.plan in
    let end : length links ≡ c.loop-link.link =
    omega (arith, long, row, c.loop-link-test.false, c.loop-link.auto.link-end) in
    let b = times_all links c.loop-link.link (suc k) end in
    omega (arith, a, b)
