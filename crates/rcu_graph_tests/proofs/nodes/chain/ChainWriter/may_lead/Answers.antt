use Rattle.std.proofs.Common.{rules, ◌≡◌, ◌∙◌, ◌<◌, List, ℕ, ap, arith, length, suc, true}
use Rattle.std.specs.Prelude.{slice_index}
use Rattle.std.proofs.lemmas.Bool.Decides.{nat_tests}
use Rattle.rcu_graph.specs.Graph.{word_to}
use Rattle.rcu_graph.specs.Nodes.{is_live, node_at, nodes_in, state_at}
use Rattle.rcu_graph.specs.declared.known.Node.{Node}
use Rattle.rcu_graph.specs.declared.plan.Plan.{Plan}
use Rattle.rcu_graph_tests.proofs.Targets.{greater_target}
use Rattle.rcu_graph_tests.proofs.nodes.chain.ChainWriter.may_lead.Goals as goal

pub returns : goal.returns
returns c = λ up.
    let nodes : List Node = nodes_in c.args.self.now.writer.view.client.known in
    let n : ℕ = c.in-Some.node in
    let here : word_to c.args.to ≡ suc n = ap word_to c.in-Some.is in
    let few : length nodes ≡ 4 =
    c.kept.ensures.few ∙ ap (λ (p : Plan). p.nodes) c.args.self.now.sized in
    let low : n < length nodes = (let small = c.if-node-ge4.false in omega (arith, small, few)) in
    let live : is_live (state_at nodes n) ≡ true = search rules in
    let first : c.word.result ≡ slice_index (node_at nodes c.args.from).words 0 = c.word.ensures in
    let second : c.word-2.result ≡ slice_index (node_at nodes n).words 0 = c.word-2.ensures in
    let less : c.word.result < c.word-2.result = grind (arith, nat_tests, up) in
    greater_target nodes c.args.from n (word_to c.args.to) here low live
    (omega (arith, first, second, less))
