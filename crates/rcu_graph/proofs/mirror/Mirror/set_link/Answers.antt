use Rattle.std.proofs.Common.{ℕ, ◌∙◌, ap, arith, set}
use Rattle.rcu_graph.specs.Mirror.{Mirrored, nodes_of}
use Rattle.rcu_graph.specs.Nodes.{linked_to, renewed}
use Rattle.rcu_graph.specs.declared.plan.Plan.{Plan}
use Rattle.rcu_graph.proofs.Mirrors.{link_set}
use Rattle.rcu_graph.proofs.mirror.Mirror.set_link.Goals as goal

pub returns-clause-nodes : goal.returns-clause-nodes
returns-clause-nodes c =
    let p : Plan = c.self.inside.plan in
    let k = c.self.invariant in
    let states = c.self.inside.states in
    let items = c.self.inside.links.items in
    let words = c.self.inside.words.items in
    ap (λ (n : ℕ). nodes_of p.links p.words states (set items n c.args.value) words)
    c.cell_of-cell.ensures.place
    ∙ (link_set p.links p.words states items words c.args.node c.args.link c.args.value
    (let same = ap (λ (m : Mirrored). m.plan.nodes) c.self.view_is in omega
    (arith, k.count, c.requires.node, same)) (let same = ap (λ (m : Mirrored). m.plan.links)
    c.self.view_is in
    omega (arith, c.requires.link, same))
    ∙ ap (λ (m : Mirrored). renewed m.nodes c.args.node (linked_to c.args.link c.args.value))
    c.self.view_is)
