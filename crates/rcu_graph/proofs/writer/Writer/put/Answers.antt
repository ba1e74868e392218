use Rattle.std.proofs.Common.{◌≡◌, ◌<◌, ◌∙◌, ◌∷◌, [], ℕ, ap, arith, subst, sym}
use Rattle.rcu_live.specs.Watcher.{Watching}
use Rattle.rcu_graph.specs.Writer.{IsReady, after_store}
use Rattle.rcu_graph.specs.Nodes.{node_at, nodes_in, state_at}
use Rattle.rcu_graph.specs.Tended.{AreCollected, AreLed, after_fill, published}
use Rattle.rcu_graph.specs.declared.known.Planned.{Planned}
use Rattle.rcu_graph.specs.declared.node_state.NodeState.TheVariants.{Live}
use Rattle.rcu_graph.specs.declared.plan.Plan.{Plan}
use Rattle.rcu_graph.proofs.Puts.{are_kept, is_ready, joins_it, next_inside, one_inside}
use Rattle.rcu_graph.proofs.Puts.{previous_inside, still_live}
use Rattle.rcu_graph.proofs.writer.Writer.put.Goals as goal

pub fill-requires : goal.fill-requires
fill-requires g c = record {
  node = c.in_ok-node.ensures.inside;
  free = c.in_ok-node.ensures.free;
  inside = one_inside c.args.self.now.view.client.plan.nodes c.args.next
      (next_inside _ _ _ _ _ _ c.requires c.in_ok-node.node c.in_ok-node.ensures.inside
      c.in_ok-node.ensures.free);
  words = c.requires.sized;
  links = sym c.requires.one;
}

pub publish-requires : goal.publish-requires
publish-requires g c =
    let filled = sym c.fill.ensures.state in
    let p : Plan = c.args.self.now.view.client.plan in
    let planned = ap (λ (w : Watching Planned). w.view.client.plan) c.fill.ensures.state in
    let one = ap (λ (q : Plan). q.links) planned ∙ c.requires.one in
    record {
      from = subst (λ (q : Plan). c.args.previous < q.nodes) (sym planned)
          (previous_inside _ _ _ _ _ _ c.requires c.in_ok-node.node c.in_ok-node.ensures.inside
          c.in_ok-node.ensures.free);
      to = subst (λ (q : Plan). c.in_ok-node.node < q.nodes) (sym planned)
          c.in_ok-node.ensures.inside;
      link = omega (arith, one);
      live = subst (λ (w : Watching Planned).
          state_at (nodes_in w.view.client.known) c.args.previous ≡ Live)
          filled
          (still_live _ _ _ _ _ _ c.requires c.in_ok-node.node c.in_ok-node.ensures.inside
          c.in_ok-node.ensures.free);
      ready = subst (λ (w : Watching Planned). IsReady (g.F.Shape.fits w.view.client.plan)
          (g.F.Shape.joins w.view.client.plan) w.view.client.plan.links
          (nodes_in w.view.client.known) c.in_ok-node.node)
          filled
          (subst (λ (links : ℕ). IsReady (g.F.Shape.fits p) (g.F.Shape.joins p) links
          (nodes_in (after_fill c.args.self.now c.in_ok-node.node c.args.words.now
          (c.args.next ∷ [])).view.client.known)
          c.in_ok-node.node)
          (sym c.requires.one)
          (is_ready _ _ _ _ _ _ c.requires c.in_ok-node.node c.in_ok-node.ensures.inside
          c.in_ok-node.ensures.free));
      joined = subst (λ (w : Watching Planned). g.F.Shape.joins w.view.client.plan 0
          (node_at (nodes_in w.view.client.known) c.args.previous).words
          (node_at (nodes_in w.view.client.known) c.in_ok-node.node).words)
          filled
          (joins_it _ _ _ _ _ _ c.requires c.in_ok-node.node c.in_ok-node.ensures.inside
          c.in_ok-node.ensures.free);
    }

pub returns : goal.returns
returns g c =
    let p : Plan = c.args.self.now.view.client.plan in
    let filled = c.fill.ensures.state in
    record {
      inside = c.in_ok-node.ensures.inside;
      free = c.in_ok-node.ensures.free;
      state =
          c.publish.ensures.state
          ∙ ap (λ (w : Watching Planned). after_store w
          (published (nodes_in w.view.client.known) c.args.previous 0 c.in_ok-node.node)
          (nodes_in c.publish.new.self.view.client.known))
          filled;
      kept = are_kept g.F.Shape.fits g.F.Shape.joins c.args.self.now c.publish.new.self
          (ap (λ (w : Watching Planned). w.view.client.plan) c.publish.ensures.state
          ∙ ap (λ (w : Watching Planned). w.view.client.plan) filled)
          c.requires.one c.kept.ensures.few c.kept.ensures.tended;
      led = subst (λ (links : ℕ). AreLed (g.F.Shape.joins p) links
          (published (nodes_in (after_fill c.args.self.now c.in_ok-node.node c.args.words.now
          (c.args.next ∷ [])).view.client.known) c.args.previous 0 c.in_ok-node.node))
          c.requires.one
          (subst (λ (w : Watching Planned). AreLed (g.F.Shape.joins w.view.client.plan)
          w.view.client.plan.links
          (published (nodes_in w.view.client.known) c.args.previous 0 c.in_ok-node.node))
          filled c.publish.ensures.led);
      collected = subst (λ (links : ℕ). AreCollected p.roots links
          (published (nodes_in (after_fill c.args.self.now c.in_ok-node.node c.args.words.now
          (c.args.next ∷ [])).view.client.known) c.args.previous 0 c.in_ok-node.node)
          (nodes_in c.publish.new.self.view.client.known))
          c.requires.one
          (subst (λ (w : Watching Planned). AreCollected w.view.client.plan.roots
          w.view.client.plan.links
          (published (nodes_in w.view.client.known) c.args.previous 0 c.in_ok-node.node)
          (nodes_in c.publish.new.self.view.client.known))
          filled c.publish.ensures.collected);
    }
