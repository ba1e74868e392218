use Rattle.std.proofs.Common.{List, ◌∙◌, ap}
use Rattle.rcu_graph.specs.Mirror.{Mirrored, nodes_of}
use Rattle.rcu_graph.specs.Nodes.{reclaimed}
use Rattle.rcu_graph.specs.declared.node_state.NodeState.{NodeState}
use Rattle.rcu_graph.specs.declared.plan.Plan.{Plan}
use Rattle.rcu_graph.proofs.Mirrors.{reclaimed_of}
use Rattle.rcu_graph.proofs.Standings.{states_by}
use Rattle.rcu_graph.proofs.mirror.Mirror.reclaim.Goals as goal

pub returns-clause-nodes : goal.returns-clause-nodes
returns-clause-nodes c =
    let p : Plan = c.self.inside.plan in
    let i = c.self.inside in
    ap (λ (s : List NodeState). nodes_of p.links p.words s i.links.items i.words.items)
    c.reclaim.ensures
    ∙ (reclaimed_of p.links p.words c.args.number i.states i.links.items i.words.items
    ∙ ap (λ (m : Mirrored). reclaimed c.args.number c.args.number m.nodes) c.self.view_is)

pub reclaim-requires : goal.reclaim-requires
reclaim-requires c =
    let p : Plan = c.self.inside.plan in
    let i = c.self.inside in
    record {
      small = c.requires.small;
      late = states_by p.links p.words i.states i.links.items i.words.items c.args.self.now.nodes
          (ap (λ (m : Mirrored). m.nodes) c.self.view_is) c.args.number c.requires.late;
    }
