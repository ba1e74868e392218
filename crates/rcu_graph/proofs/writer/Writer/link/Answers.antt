use Rattle.std.proofs.Common.{◌≡◌, ◌<◌, ◌∙◌, ap}
use Rattle.rcu_live.specs.Watcher.{Watching}
use Rattle.rcu_graph.specs.Graph.{word_to}
use Rattle.rcu_graph.specs.Writer.{after_store}
use Rattle.rcu_graph.specs.Nodes.{IsTarget, node_at, nodes_in, state_at}
use Rattle.rcu_graph.specs.Tended.{AreCollected, AreLed, relinked}
use Rattle.rcu_graph.specs.declared.known.Planned.{Planned}
use Rattle.rcu_graph.specs.declared.node_state.NodeState.TheVariants.{Live}
use Rattle.rcu_graph.specs.declared.plan.Plan.{Plan}
use Rattle.rcu_graph.proofs.Owned.{of_graph, of_seat}
use Rattle.rcu_graph.proofs.writer.Writer.link.Goals as goal

pub link-requires : goal.link-requires
link-requires g c =
    let go = of_graph c.self.inside.graph c.self.inside.counted.nodes c.args.self.now c.self.view_is
    c.self.invariant.watches in
    record {
      watches = c.self.invariant.watches;
      counted = c.self.invariant.counted;
      from_inside = go (λ (p : Plan) (w : Watching Planned). c.args.from < p.nodes) c.requires.from;
      link_inside = go (λ (p : Plan) (w : Watching Planned). c.args.link < p.links) c.requires.link;
      live = go (λ (p : Plan) (w : Watching Planned).
          state_at (nodes_in w.view.client.known) c.args.from ≡ Live)
          c.requires.live;
      target = go (λ (p : Plan) (w : Watching Planned). IsTarget (g.F.Shape.joins p c.args.link)
          (node_at (nodes_in w.view.client.known) c.args.from).words
          (nodes_in w.view.client.known) (word_to c.args.to))
          c.requires.target;
    }

pub returns-clause-state : goal.returns-clause-state
returns-clause-state g c =
    c.link.ensures.state
    ∙ ap (λ (w : Watching Planned). after_store w
    (relinked (nodes_in w.view.client.known) c.args.from c.args.link c.args.to)
    (nodes_in c.link.new.self.nodes.view.client.known))
    c.self.view_is

pub returns-clause-led : goal.returns-clause-led
returns-clause-led g c =
    of_seat c.self.inside.graph c.self.inside.counted.nodes c.args.self.now c.self.view_is
    c.self.invariant.watches
    (λ (p : Plan) (w : Watching Planned). AreLed (g.F.Shape.joins p) p.links
    (relinked (nodes_in w.view.client.known) c.args.from c.args.link c.args.to))
    c.link.ensures.led

pub returns-clause-collected : goal.returns-clause-collected
returns-clause-collected g c =
    of_seat c.self.inside.graph c.self.inside.counted.nodes c.args.self.now c.self.view_is
    c.self.invariant.watches
    (λ (p : Plan) (w : Watching Planned). AreCollected p.roots p.links
    (relinked (nodes_in w.view.client.known) c.args.from c.args.link c.args.to)
    (nodes_in c.link.new.self.nodes.view.client.known))
    c.link.ensures.collected
