use Rattle.std.proofs.Common.{◌≡◌, ◌∙◌, ap, subst, sym}
use Rattle.rcu_live.specs.InPart.{watcher_part}
use Rattle.rcu_live.specs.Watcher.{Watching}
use Rattle.rcu_graph.specs.Graph.{IsWatcherOf}
use Rattle.rcu_graph.specs.Writer.{IsWriterOf}
use Rattle.rcu_graph.specs.Nodes.{IsTarget, node_at, nodes_in, state_at}
use Rattle.rcu_graph.specs.declared.known.Planned.{Planned}
use Rattle.rcu_graph.specs.declared.node_state.NodeState.TheVariants.{Live}
use Rattle.rcu_graph.specs.declared.plan.Plan.{Plan}
use Rattle.rcu_graph.proofs.known_nodes.KnownNodes.link.Goals as goal

pub link-requires : goal.link-requires
link-requires g c =
    let seat = watcher_part g.P.Within.lens c.self.inside.seat in
    let is : seat ≡ c.args.self.now = c.self.view_is in
    let k = c.self.invariant in
    let watches = subst (λ (w : Watching Planned). IsWatcherOf c.args.graph.now w) (sym is)
    c.requires.graph in
    let writer : IsWriterOf c.args.graph.now seat = record {
      watches = watches;
      role = k.role;
      keeps = k.keeps;
      few = k.few ∙ ap (λ (p : Plan). p.nodes) (sym k.planned ∙ watches.planned);
    } in
    let live = subst (λ (w : Watching Planned). state_at (nodes_in w.view.client.known) c.args.node
    ≡ Live)
    (sym is) c.requires.live in
    let target = subst (λ (w : Watching Planned). IsTarget
    (g.F.Shape.joins c.args.graph.now.plan c.args.link)
    (node_at (nodes_in w.view.client.known) c.args.node).words (nodes_in w.view.client.known)
    c.args.value)
    (sym is) c.requires.target in
    record {
      writer = writer;
      node = c.requires.node;
      link = c.requires.link;
      live = live;
      target = target;
    }
