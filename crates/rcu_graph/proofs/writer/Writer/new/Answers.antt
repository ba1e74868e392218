use Rattle.std.proofs.Common.{◌≡◌, ◌∙◌, ℕ, List, ap, arith, subst, sym}
use Rattle.std.specs.Prelude.{replicate}
use Rattle.rcu_live.specs.Board.{Object}
use Rattle.rcu_live.specs.Watcher.{Watching}
use Rattle.rcu_graph.specs.Graph.{IsWatcherOf}
use Rattle.rcu_graph.specs.Nodes.{nodes_in}
use Rattle.rcu_graph.specs.Collecting.{IsCounted}
use Rattle.rcu_graph.specs.declared.known.Planned.{Planned}
use Rattle.rcu_graph.specs.declared.known.Node.{Node}
use Rattle.rcu_graph.specs.declared.plan.Plan.{Plan}
use Rattle.rcu_graph.proofs.Keeps.{counted_first}
use Rattle.rcu_graph.proofs.writer.Writer.new.Goals as goal

pub invariant_of-result : goal.invariant_of-result
invariant_of-result g c =
    let nodes = c.in_ok-new.field-0 in
    let p : Plan = c.args.graph.now.plan in
    let counts = c.in_ok-vec.field-0.items in
    let unlinking = c.in_ok-vec-2.field-0.items in
    let many = ap (λ (q : Plan). q.nodes) c.plan-count.ensures.plan in
    let graph : c.in_ok-graph.graph ≡ c.args.graph.now = c.in_ok-graph.ensures in
    record {
      watches = subst (λ (o : Object Plan). IsWatcherOf o nodes) (sym graph)
          (subst (λ (w : Watching Planned). IsWatcherOf c.args.graph.now w)
          (sym c.in_ok-new.ensures) c.requires.writer.watches);
      counted = subst (λ (o : Object Plan). IsCounted (g.F.Shape.fits o.plan)
          (g.F.Shape.joins o.plan) o.plan.nodes o.plan.roots o.plan.links
          (nodes_in nodes.view.client.known) counts unlinking)
          (sym graph)
          (subst (λ (w : Watching Planned). IsCounted (g.F.Shape.fits p) (g.F.Shape.joins p) p.nodes
          p.roots p.links (nodes_in w.view.client.known) counts unlinking)
          (sym c.in_ok-new.ensures)
          (subst (λ (l : List Node). IsCounted (g.F.Shape.fits p) (g.F.Shape.joins p) p.nodes
          p.roots p.links l counts unlinking)
          (sym (ap nodes_in c.requires.nodes))
          (counted_first (g.F.Shape.fits p) (g.F.Shape.joins p) p.nodes p.roots p.links p.words
          (g.F.Shape.first p) c.plan-count.ensures.roots counts unlinking c.requires.first.fit
          (c.in_ok-vec.ensures.items_if_clones_equal (λ y same. same)
          ∙ ap (λ (n : ℕ). replicate n 0) many)
          (omega (arith, c.in_ok-vec-2.field-0.ok.0, c.in_ok-vec-2.ensures.len, many)))));
    }
