use Rattle.std.proofs.Common.{◌∙◌, ap, sym}
use Rattle.rcu_graph.specs.Nodes.{state_at}
use Rattle.rcu_graph.specs.Mirror.{Mirrored}
use Rattle.rcu_graph.specs.declared.plan.Plan.{Plan}
use Rattle.rcu_graph.proofs.Mirrors.{state_of}
use Rattle.rcu_graph.proofs.mirror.Mirror.state.Goals as goal

pub returns : goal.returns
returns c =
    let p : Plan = c.self.inside.plan in
    c.state.ensures
    ∙ (sym (state_of p.links p.words c.self.inside.states c.self.inside.links.items
    c.self.inside.words.items c.args.node)
    ∙ ap (λ (m : Mirrored). state_at m.nodes c.args.node) c.self.view_is)
