use Rattle.std.proofs.Common.{ℕ, ap, arith, subst, sym}
use Rattle.rcu_live.specs.Watcher.{Watching}
use Rattle.rcu_graph.specs.Nodes.{IsTarget, node_at, nodes_in}
use Rattle.rcu_graph.specs.Tended.{AreCollected, AreLed, relinked}
use Rattle.rcu_graph.specs.declared.known.Planned.{Planned}
use Rattle.rcu_graph.specs.declared.plan.Plan.{Plan}
use Rattle.rcu_graph.proofs.Counting.{live_inside}
use Rattle.rcu_graph.proofs.Puts.{are_kept}
use Rattle.rcu_map.proofs.links.pass.Goals as goal

pub link-requires : goal.link-requires
link-requires g c =
    let bound =
    live_inside (nodes_in c.args.writer.now.view.client.known) c.args.previous c.requires.live in
    let few = c.requires.few in
    let one = c.requires.one in
    record {
      from = omega (arith, bound, few);
      link = omega (arith, one);
      live = c.requires.live;
      target = subst (λ (x : ℕ). IsTarget (g.F.Shape.joins c.args.writer.now.view.client.plan 0)
          (node_at (nodes_in c.args.writer.now.view.client.known) c.args.previous).words
          (nodes_in c.args.writer.now.view.client.known) x)
          (sym c.link_of-next.ensures) c.requires.target;
    }

pub returns : goal.returns
returns g c =
    let p : Plan = c.args.writer.now.view.client.plan in
    record {
      next = c.link_of-next.result;
      leads = c.link_of-next.ensures;
      state = c.link.ensures.state;
      kept = are_kept g.F.Shape.fits g.F.Shape.joins c.args.writer.now c.link.new.self
          (ap (λ (w : Watching Planned). w.view.client.plan) c.link.ensures.state) c.requires.one
          c.kept.ensures.few c.kept.ensures.tended;
      led = subst (λ (links : ℕ). AreLed (g.F.Shape.joins p) links
          (relinked (nodes_in c.args.writer.now.view.client.known) c.args.previous 0
          c.link_of-next.result))
          c.requires.one c.link.ensures.led;
      collected = subst (λ (links : ℕ). AreCollected p.roots links
          (relinked (nodes_in c.args.writer.now.view.client.known) c.args.previous 0
          c.link_of-next.result)
          (nodes_in c.link.new.self.view.client.known))
          c.requires.one c.link.ensures.collected;
    }
