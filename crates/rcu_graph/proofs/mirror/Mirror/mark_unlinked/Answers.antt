use Rattle.std.proofs.Common.{List, ◌∙◌, ap, arith}
use Rattle.rcu_graph.specs.Mirror.{Mirrored, nodes_of}
use Rattle.rcu_graph.specs.Nodes.{in_state, renewed}
use Rattle.rcu_graph.specs.declared.node_state.NodeState.{NodeState}
use Rattle.rcu_graph.specs.declared.node_state.NodeState.TheVariants.{Unlinked}
use Rattle.rcu_graph.specs.declared.plan.Plan.{Plan}
use Rattle.rcu_graph.proofs.Mirrors.{state_set}
use Rattle.rcu_graph.proofs.Standings.{state_is}
use Rattle.rcu_graph.proofs.mirror.Mirror.mark_unlinked.Goals as goal

pub returns-clause-nodes : goal.returns-clause-nodes
returns-clause-nodes c =
    let p : Plan = c.self.inside.plan in
    let i = c.self.inside in
    ap (λ (s : List NodeState). nodes_of p.links p.words s i.links.items i.words.items)
    c.mark_unlinked.ensures
    ∙ (state_set p.links p.words i.states i.links.items i.words.items c.args.node Unlinked
    ∙ ap (λ (m : Mirrored). renewed m.nodes c.args.node (in_state Unlinked)) c.self.view_is)

pub mark_unlinked-requires : goal.mark_unlinked-requires
mark_unlinked-requires c =
    let p : Plan = c.self.inside.plan in
    let i = c.self.inside in
    record {
      node = let count = c.self.invariant.count in
          let same = ap (λ (m : Mirrored). m.plan.nodes) c.self.view_is in omega
          (arith, count, c.requires.node, same);
      live = state_is p.links p.words i.states i.links.items i.words.items c.args.self.now.nodes
          (ap (λ (m : Mirrored). m.nodes) c.self.view_is) c.args.node
          ∙ c.requires.live;
    }
