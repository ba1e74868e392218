use Rattle.std.proofs.Common.{◌∙◌, ℕ, ap, subst}
use Rattle.rcu_live.specs.Watcher.{Watching}
use Rattle.rcu_graph.specs.Nodes.{nodes_in}
use Rattle.rcu_graph.specs.Tended.{AreTended}
use Rattle.rcu_graph.specs.declared.known.Planned.{Planned}
use Rattle.rcu_graph.specs.declared.plan.Plan.{Plan}
use Rattle.rcu_map.proofs.links.keep.Goals as goal

pub returns : goal.returns
returns g c =
    let writer : Watching Planned = c.in_ok-writer.writer in
    let planned = ap (λ (w : Watching Planned). w.view.client.plan) c.in_ok-writer.ensures
    ∙ c.requires.writer.watches.planned in
    record {
      same = c.in_ok-writer.ensures;
      kept = record {
        few = c.kept.ensures.few ∙ ap (λ (p : Plan). p.nodes) planned;
        tended =
            subst (λ (links : ℕ). AreTended (g.F.Shape.fits c.args.graph.now.plan)
            (g.F.Shape.joins c.args.graph.now.plan) c.args.graph.now.plan.roots links
            (nodes_in writer.view.client.known))
            c.requires.one
            (subst (λ (p : Plan). AreTended (g.F.Shape.fits p) (g.F.Shape.joins p) p.roots p.links
            (nodes_in writer.view.client.known))
            planned c.kept.ensures.tended);
      };
    }
