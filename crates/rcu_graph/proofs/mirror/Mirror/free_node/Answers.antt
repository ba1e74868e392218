use Rattle.std.proofs.Common.{ap, length, refl}
use Rattle.rcu_graph.specs.Mirror.{Mirrored}
use Rattle.rcu_graph.specs.declared.plan.Plan.{Plan}
use Rattle.rcu_graph.proofs.Standings.{node_free, none_free}
use Rattle.rcu_graph.proofs.mirror.Mirror.free_node.Goals as goal

pub returns-clause-free : goal.returns-clause-free
returns-clause-free c =
    let p : Plan = c.self.inside.plan in
    let i = c.self.inside in
    node_free p.links p.words i.states i.links.items i.words.items c.args.self.now.nodes
    (ap (λ (m : Mirrored). m.nodes) c.self.view_is)
    c.free_node.result c.free_node.ensures.free

pub returns-clause-none : goal.returns-clause-none
returns-clause-none c =
    let p : Plan = c.self.inside.plan in
    let i = c.self.inside in
    none_free p.links p.words i.states i.links.items i.words.items c.args.self.now.nodes
    (ap (λ (m : Mirrored). m.nodes) c.self.view_is)
    (length i.states) refl c.free_node.result c.free_node.ensures.none
