use Rattle.std.proofs.Common.{◌≡◌, ◌<◌, ◌∙◌, ℕ, List, Option, ap, arith, length, map, refl, subst}
use Rattle.std.proofs.Common.{sym}
use Rattle.std.specs.Prelude.{All, IfSome}
use Rattle.rcu_live.specs.Watcher.{Watching}
use Rattle.rcu_graph.specs.Graph.{word_to}
use Rattle.rcu_graph.specs.Nodes.{nodes_in, state_at}
use Rattle.rcu_graph.specs.Tended.{after_fill, filled_with}
use Rattle.rcu_graph.specs.Collecting.{IsCounted}
use Rattle.rcu_graph.specs.declared.known.Planned.{Planned}
use Rattle.rcu_graph.specs.declared.known.Node.{Node}
use Rattle.rcu_graph.specs.declared.node_state.NodeState.TheVariants.{Free}
use Rattle.rcu_graph.specs.declared.plan.Plan.{Plan}
use Rattle.rcu_graph.proofs.Keeps.{counted_written}
use Rattle.rcu_graph.proofs.Owned.{of_graph}
use Rattle.rcu_graph.proofs.writer.Writer.fill.Goals as goal

pub fill-requires : goal.fill-requires
fill-requires g c =
    let go = of_graph c.self.inside.graph c.self.inside.counted.nodes c.args.self.now c.self.view_is
    c.self.invariant.watches in
    record {
      graph = c.self.invariant.watches;
      node = go (λ (p : Plan) (w : Watching Planned). c.args.node < p.nodes) c.requires.node;
      free = go (λ (p : Plan) (w : Watching Planned).
          state_at (nodes_in w.view.client.known) c.args.node ≡ Free)
          c.requires.free;
      inside = go (λ (p : Plan) (w : Watching Planned).
          All (λ (to : Option ℕ). IfSome to (λ other. other < p.nodes)) c.args.links.now)
          c.requires.inside;
      words = go (λ (p : Plan) (w : Watching Planned). length c.args.words.now ≡ p.words)
          c.requires.words;
      links = go (λ (p : Plan) (w : Watching Planned). length c.args.links.now ≡ p.links)
          c.requires.links;
    }

pub invariant_of-self : goal.invariant_of-self
invariant_of-self g c =
    let s : Watching Planned = c.self.inside.counted.nodes in
    let counted = c.self.inside.counted in
    let p : Plan = c.self.inside.graph.plan in
    let nodes : List Node = nodes_in s.view.client.known in
    let change : Node → Node = filled_with (map word_to c.args.links.now) c.args.words.now in
    let node =
    of_graph c.self.inside.graph s c.args.self.now c.self.view_is c.self.invariant.watches
    (λ (q : Plan) (w : Watching Planned). c.args.node < q.nodes) c.requires.node in
    record {
      watches = c.fill.ensures.graph;
      counted = subst (λ (w : Watching Planned). IsCounted (g.F.Shape.fits p) (g.F.Shape.joins p)
          p.nodes p.roots p.links (nodes_in w.view.client.known) counted.counts.items
          counted.unlinking.items)
          (sym c.fill.ensures.state)
          (counted_written (g.F.Shape.fits p) (g.F.Shape.joins p) p.nodes p.roots p.links nodes
          counted.counts.items counted.unlinking.items c.self.invariant.counted c.args.node change
          (let few = c.plan.ensures.few in omega (arith, few, node))
          (ap (λ (w : Watching Planned). state_at (nodes_in w.view.client.known) c.args.node)
          c.self.view_is
          ∙ c.requires.free)
          refl);
    }

pub returns : goal.returns
returns g c = record {
  state =
      c.fill.ensures.state
      ∙ ap (λ (w : Watching Planned). after_fill w c.args.node c.args.words.now c.args.links.now)
      c.self.view_is;
}
