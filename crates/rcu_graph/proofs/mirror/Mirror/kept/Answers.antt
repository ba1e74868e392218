use Rattle.std.proofs.Common.{◌∙◌, ◌*◌, ℕ, ap, arith, length, subst, sym}
use Rattle.rcu_graph.specs.Mirror.{AreSized, Mirrored}
use Rattle.rcu_graph.proofs.Mirrors.{length-nodes_of, sizes_of}
use Rattle.rcu_graph.proofs.mirror.Mirror.kept.Goals as goal

pub returns-clause-few : goal.returns-clause-few
returns-clause-few c =
    let i = c.self.inside in
    ap (λ (m : Mirrored). length m.nodes) (sym c.self.view_is)
    ∙ (length-nodes_of i.plan.links i.plan.words i.states i.links.items i.words.items
    ∙ (c.self.invariant.count ∙ ap (λ (m : Mirrored). m.plan.nodes) c.self.view_is))

pub returns-clause-sized : goal.returns-clause-sized
returns-clause-sized c =
    let i = c.self.inside in
    let k = c.self.invariant in
    subst (λ (m : Mirrored). AreSized m.plan.nodes m.plan.links m.plan.words m.nodes)
    c.self.view_is (λ j low.
    sizes_of i.plan.links i.plan.words i.states i.links.items i.words.items
    (k.links ∙ ap (λ (n : ℕ). i.plan.links * n) (sym k.count))
    (k.words ∙ ap (λ (n : ℕ). i.plan.words * n) (sym k.count)) j (omega (arith, low, k.count)))
