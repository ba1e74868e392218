use Rattle.std.proofs.Common.{ℕ, ◌∙◌, ap, arith, set}
use Rattle.rcu_graph.specs.Mirror.{Mirrored, nodes_of}
use Rattle.rcu_graph.specs.Nodes.{renewed, worded}
use Rattle.rcu_graph.specs.declared.plan.Plan.{Plan}
use Rattle.rcu_graph.proofs.Mirrors.{word_set}
use Rattle.rcu_graph.proofs.mirror.Mirror.set_word.Goals as goal

pub returns-clause-nodes : goal.returns-clause-nodes
returns-clause-nodes c =
    let p : Plan = c.self.inside.plan in
    let k = c.self.invariant in
    let states = c.self.inside.states in
    let links = c.self.inside.links.items in
    let items = c.self.inside.words.items in
    ap (λ (n : ℕ). nodes_of p.links p.words states links (set items n c.args.value))
    c.cell_of-cell.ensures.place
    ∙ (word_set p.links p.words states links items c.args.node c.args.word c.args.value
    (let same = ap (λ (m : Mirrored). m.plan.nodes) c.self.view_is in omega
    (arith, k.count, c.requires.node, same)) (let same = ap (λ (m : Mirrored). m.plan.words)
    c.self.view_is in
    omega (arith, c.requires.word, same))
    ∙ ap (λ (m : Mirrored). renewed m.nodes c.args.node (worded c.args.word c.args.value))
    c.self.view_is)
