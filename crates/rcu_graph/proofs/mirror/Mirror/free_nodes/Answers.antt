use Rattle.std.proofs.Common.{◌≡◌, ◌∙◌, ◌*◌, List, ℕ, ap, replicate, rules}
use Rattle.rcu_graph.specs.Mirror.{nodes_of}
use Rattle.rcu_graph.specs.declared.node_state.NodeState.{NodeState}
use Rattle.rcu_graph.specs.declared.node_state.NodeState.TheVariants.{Free}
use Rattle.rcu_graph.specs.declared.plan.Plan.{Plan}
use Rattle.rcu_graph.proofs.Mirrors.{nodes_of_zeros}
use Rattle.rcu_graph.proofs.mirror.Mirror.free_nodes.Goals as goal

pub returns-clause-nodes : goal.returns-clause-nodes
returns-clause-nodes c =
    let p : Plan = c.args.plan in
    let states : c.in_ok-states.states ≡ replicate p.nodes Free = search rules in
    let links : c.in_ok-links.links.items ≡ replicate {A = ℕ} (p.links * p.nodes) 0 =
    search rules in
    let words : c.in_ok-words.words.items ≡ replicate {A = ℕ} (p.words * p.nodes) 0 =
    search rules in
    ap (λ (l : List NodeState).
    nodes_of p.links p.words l c.in_ok-links.links.items c.in_ok-words.words.items)
    states
    ∙ (ap
    (λ (l : List ℕ). nodes_of p.links p.words (replicate p.nodes Free) l c.in_ok-words.words.items)
    links
    ∙ (ap (λ (l : List ℕ).
    nodes_of p.links p.words (replicate p.nodes Free) (replicate {A = ℕ} (p.links * p.nodes) 0) l)
    words
    ∙ nodes_of_zeros p.links p.words p.nodes))
