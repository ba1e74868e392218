use Rattle.std.proofs.Common.{ℕ, ◌∙◌, ap, arith, get_or, sym}
use Rattle.std.specs.Prelude.{slice_index}
use Rattle.rcu_graph.specs.Nodes.{node_at}
use Rattle.rcu_graph.specs.Mirror.{Mirrored}
use Rattle.rcu_graph.specs.declared.plan.Plan.{Plan}
use Rattle.rcu_graph.proofs.Mirrors.{link_of, no_default}
use Rattle.rcu_graph.proofs.mirror.Mirror.link.Goals as goal

pub returns : goal.returns
returns c =
    let p : Plan = c.self.inside.plan in
    let k = c.self.invariant in
    let items = c.self.inside.links.items in
    c.index.ensures
    ∙ (no_default items c.cell_of.result _ 0 (omega (arith, k.links, c.cell_of.ensures.inside))
    ∙ (ap (λ (n : ℕ). get_or items n 0) c.cell_of.ensures.place
    ∙ (sym (link_of p.links p.words c.self.inside.states items c.self.inside.words.items c.args.node
    c.args.link (let same = ap (λ (m : Mirrored). m.plan.nodes) c.self.view_is in omega
    (arith, k.count, c.requires.node, same)) (let same = ap (λ (m : Mirrored). m.plan.links)
    c.self.view_is in
    omega (arith, c.requires.link, same)))
    ∙ ap (λ (m : Mirrored). slice_index (node_at m.nodes c.args.node).links c.args.link)
    c.self.view_is)))
