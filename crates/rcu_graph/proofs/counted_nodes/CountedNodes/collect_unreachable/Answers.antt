use Rattle.std.proofs.Common.{◌≡◌, ◌+◌, ◌<◌, [], ℕ, List, arith, get_or, subst, sym}
use Rattle.std.proofs.lemmas.List.{get_or_read}
use Rattle.rcu_graph.specs.Nodes.{node_at, nodes_in}
use Rattle.rcu_graph.specs.Collecting.{IsCollecting}
use Rattle.rcu_graph.specs.declared.known.Node.{Node}
use Rattle.rcu_graph.specs.declared.plan.Plan.{Plan}
use Rattle.rcu_graph.proofs.Cascade.{in_room, step_on}
use Rattle.rcu_graph.proofs.Tending.{take_next}
use Rattle.rcu_graph.proofs.counted_nodes.CountedNodes.collect_unreachable.Goals as goal

pub release_link-unlinked-requires : goal.release_link-unlinked-requires
release_link-unlinked-requires g c = record {
  graph = c.requires.graph;
  collecting = (nodes_in c.args.self.now.nodes.view.client.known, 0, [], c.requires.collecting);
}

pub unlinking-init : goal.unlinking-init
unlinking-init g c = record {
  graph = c.release_link-unlinked.ensures.graph;
  state = λ before e. e;
  collecting = λ stored t. t;
}

pub index-node-requires : goal.index-node-requires
index-node-requires g c =
    let t = c.unlinking.invariant.collecting (nodes_in c.args.self.now.nodes.view.client.known)
    (c.release_link-unlinked.ensures.collecting (nodes_in
    c.args.self.now.nodes.view.client.known) 0 [] c.requires.collecting) in
    let a = in_room c.args.graph.now.plan.nodes c.args.graph.now.plan.roots
    c.args.graph.now.plan.links (nodes_in c.args.self.now.nodes.view.client.known)
    (nodes_in c.unlinking.self.nodes.view.client.known) c.unlinking.self.counts.items
    c.unlinking.self.unlinking.items c.unlinking.done c.unlinking.unlinked [] t in
    omega (arith, a, c.unlinking-test.true, c.unlinking.self.unlinking.ok.0)

pub release_links_of-unlinked-requires : goal.release_links_of-unlinked-requires
release_links_of-unlinked-requires g c =
    let i = c.unlinking.invariant in
    let n = c.unlinking.done in
    let stored : List Node = nodes_in c.args.self.now.nodes.view.client.known in
    let t = i.collecting stored (c.release_link-unlinked.ensures.collecting stored 0 []
    c.requires.collecting) in
    let nodes : List Node = nodes_in c.unlinking.self.nodes.view.client.known in
    let counts : List ℕ = c.unlinking.self.counts.items in
    let unlinking : List ℕ = c.unlinking.self.unlinking.items in
    let p : Plan = c.args.graph.now.plan in
    let room = in_room p.nodes p.roots p.links stored nodes counts unlinking n
    c.unlinking.unlinked [] t in
    let node_is : c.index-node.result.now ≡ get_or unlinking n 0 =
    get_or_read unlinking n _ (omega (arith, room, c.unlinking-test.true)) c.index-node.ensures 0 in
    record {
      graph = i.graph;
      node = subst (λ (x : ℕ). x < p.nodes) (sym node_is) (t.ordered n c.unlinking-test.true);
      collecting = (
        stored,
        n + 1,
        subst (λ (x : ℕ). IsCollecting p.nodes p.roots p.links stored nodes counts unlinking (n + 1)
            c.unlinking.unlinked (node_at stored x).links)
            (sym node_is)
            (take_next p.nodes p.roots p.links stored nodes counts unlinking n c.unlinking.unlinked
            c.unlinking-test.true t),
      );
    }

pub overflow_add-done : goal.overflow_add-done
overflow_add-done g c =
    let t = c.unlinking.invariant.collecting (nodes_in c.args.self.now.nodes.view.client.known)
    (c.release_link-unlinked.ensures.collecting (nodes_in
    c.args.self.now.nodes.view.client.known) 0 [] c.requires.collecting) in
    let a = t.enough in
    omega (arith, a, c.unlinking-test.true, c.unlinking.self.unlinking.ok.0, t.room)

pub unlinking-smaller : goal.unlinking-smaller
unlinking-smaller g c =
    let t = c.unlinking.invariant.collecting (nodes_in c.args.self.now.nodes.view.client.known)
    (c.release_link-unlinked.ensures.collecting (nodes_in
    c.args.self.now.nodes.view.client.known) 0 [] c.requires.collecting) in
    let a = t.enough in
    omega (arith, a, c.unlinking-test.true)

pub unlinking-preserved : goal.unlinking-preserved
unlinking-preserved g c =
    let i = c.unlinking.invariant in
    let n = c.unlinking.done in
    let nodes : List Node = nodes_in c.unlinking.self.nodes.view.client.known in
    let counts : List ℕ = c.unlinking.self.counts.items in
    let unlinking : List ℕ = c.unlinking.self.unlinking.items in
    record {
      graph = c.release_links_of-unlinked.ensures.graph;
      state = λ before e. step_on before c.unlinking.self.nodes
          c.release_links_of-unlinked.new.self.nodes
          (i.state before e) c.release_links_of-unlinked.ensures.state;
      collecting = λ stored first.
          let t = i.collecting stored first in
          let room =
          in_room c.args.graph.now.plan.nodes c.args.graph.now.plan.roots
          c.args.graph.now.plan.links stored nodes counts unlinking n c.unlinking.unlinked [] t in
          let node_is : c.index-node.result.now ≡ get_or unlinking n 0 =
          get_or_read unlinking n _ (omega (arith, room, c.unlinking-test.true))
          c.index-node.ensures
          0 in
          c.release_links_of-unlinked.ensures.collecting stored (n + 1)
          (subst (λ (x : ℕ). IsCollecting c.args.graph.now.plan.nodes c.args.graph.now.plan.roots
          c.args.graph.now.plan.links stored nodes counts unlinking (n + 1)
          c.unlinking.unlinked (node_at stored x).links)
          (sym node_is)
          (take_next c.args.graph.now.plan.nodes c.args.graph.now.plan.roots
          c.args.graph.now.plan.links stored nodes counts unlinking n c.unlinking.unlinked
          c.unlinking-test.true t));
    }

pub returns-clause-graph : goal.returns-clause-graph
returns-clause-graph g c = c.unlinking.invariant.graph

pub returns-clause-state : goal.returns-clause-state
returns-clause-state g c =
    c.unlinking.invariant.state c.args.self.now.nodes c.release_link-unlinked.ensures.state

pub returns-clause-collecting : goal.returns-clause-collecting
returns-clause-collecting g c =
    let t = c.unlinking.invariant.collecting (nodes_in c.args.self.now.nodes.view.client.known)
    (c.release_link-unlinked.ensures.collecting (nodes_in
    c.args.self.now.nodes.view.client.known) 0 [] c.requires.collecting) in
    let going = t.going in
    let end : c.unlinking.unlinked ≡ c.unlinking.done =
    omega (arith, going, c.unlinking-test.false) in (
      c.unlinking.done,
      subst (λ (n : ℕ). IsCollecting c.args.graph.now.plan.nodes c.args.graph.now.plan.roots
          c.args.graph.now.plan.links
          (nodes_in c.args.self.now.nodes.view.client.known)
          (nodes_in c.unlinking.self.nodes.view.client.known)
          c.unlinking.self.counts.items c.unlinking.self.unlinking.items c.unlinking.done n [])
          end t,
    )
