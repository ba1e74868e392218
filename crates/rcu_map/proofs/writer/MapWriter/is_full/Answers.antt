use Rattle.std.proofs.Common.{◌-◌, ap, arith, subst, sym}
use Rattle.std.proofs.lemmas.Bool.{lt-ltb, ltb-true}
use Rattle.rcu_graph.specs.Nodes.{nodes_in}
use Rattle.rcu_graph.specs.declared.plan.Plan.{Plan}
use Rattle.rcu_map.specs.Room.{IsAtCapacity}
use Rattle.rcu_map.proofs.Looks.{no_more_than_nodes}
use Rattle.rcu_map.proofs.writer.MapWriter.is_full.Goals as goal

pub overflow_sub-result : goal.overflow_sub-result
overflow_sub-result g c =
    let k = c.self.invariant in
    let p : Plan = c.self.inside.nodes.view.client.plan in
    let roots = ap (λ (q : Plan). q.roots) c.plan-plan.ensures in
    let nodes = ap (λ (q : Plan). q.nodes) c.plan-plan.ensures in
    let most = no_more_than_nodes g.E.Invariant.holds p.roots p.seed p.words p.nodes
    (nodes_in c.self.inside.nodes.view.client.known) k.map k.some in
    omega (arith, most, roots, nodes)

pub overflow_sub-result-2 : goal.overflow_sub-result-2
overflow_sub-result-2 g c =
    let k = c.self.invariant in
    let p : Plan = c.self.inside.nodes.view.client.plan in
    let roots = ap (λ (q : Plan). q.roots) c.plan-plan.ensures in
    let nodes = ap (λ (q : Plan). q.nodes) c.plan-plan.ensures in
    let most = no_more_than_nodes g.E.Invariant.holds p.roots p.seed p.words p.nodes
    (nodes_in c.self.inside.nodes.view.client.known) k.map k.some in
    let count = k.count in
    omega (arith, most, count, roots, nodes)

pub returns : goal.returns
returns g c =
    let k = c.self.invariant in
    let roots = ap (λ (q : Plan). q.roots) c.plan-plan.ensures in
    let nodes = ap (λ (q : Plan). q.nodes) c.plan-plan.ensures in
    let count = k.count in (
      λ e.
          let few = ltb-true (c.plan-plan.result.nodes - c.plan-plan.result.roots
          - c.self.inside.len) 2 e in
          subst IsAtCapacity c.self.view_is (omega (arith, few, count, roots, nodes)),
      λ at.
          let full : IsAtCapacity c.self.inside.nodes = subst IsAtCapacity (sym c.self.view_is) at
          in
          lt-ltb (c.plan-plan.result.nodes - c.plan-plan.result.roots - c.self.inside.len) 2
          (omega (arith, full, count, roots, nodes)),
    )
