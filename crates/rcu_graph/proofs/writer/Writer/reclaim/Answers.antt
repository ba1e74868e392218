use Rattle.std.proofs.Common.{◌∙◌, ap, subst, sym}
use Rattle.std.specs.Prelude.{max}
use Rattle.rcu_live.specs.Watcher.{Watching}
use Rattle.rcu_graph.specs.Writer.{after_look}
use Rattle.rcu_graph.specs.Nodes.{latest_in, nodes_in}
use Rattle.rcu_graph.specs.Collecting.{IsCounted}
use Rattle.rcu_graph.specs.declared.known.Planned.{Planned}
use Rattle.rcu_graph.specs.declared.plan.Plan.{Plan}
use Rattle.rcu_graph.proofs.Keeps.{counted_reclaimed}
use Rattle.rcu_graph.proofs.writer.Writer.reclaim.Goals as goal

pub invariant_of-self : goal.invariant_of-self
invariant_of-self g c =
    let s : Watching Planned = c.self.inside.counted.nodes in
    let counted = c.self.inside.counted in
    let p : Plan = c.self.inside.graph.plan in
    record {
      watches = c.look.ensures.graph;
      counted = subst (λ (w : Watching Planned). IsCounted (g.F.Shape.fits p) (g.F.Shape.joins p)
          p.nodes p.roots p.links (nodes_in w.view.client.known) counted.counts.items
          counted.unlinking.items)
          (sym c.look.ensures.state)
          (counted_reclaimed (g.F.Shape.fits p) (g.F.Shape.joins p) p.nodes p.roots p.links
          (nodes_in s.view.client.known) counted.counts.items counted.unlinking.items
          c.self.invariant.counted c.look.result
          (max c.look.result (latest_in s.view.client.known)));
    }

pub returns-clause-state : goal.returns-clause-state
returns-clause-state g c =
    c.look.ensures.state ∙ ap (λ (w : Watching Planned). after_look w c.look.result) c.self.view_is
