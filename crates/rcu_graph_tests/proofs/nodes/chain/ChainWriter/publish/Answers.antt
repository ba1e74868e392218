use Rattle.std.proofs.Common.{rules, subst, sym}
use Rattle.std.specs.Prelude.{◌<◌, IsTrue, slice_index}
use Rattle.rcu_graph.specs.Writer.{IsReady}
use Rattle.rcu_graph.specs.Nodes.{nodes_in}
use Rattle.rcu_graph.specs.declared.plan.Plan.{Plan}
use Rattle.rcu_graph_tests.proofs.nodes.chain.ChainWriter.publish.Goals as goal

pub publish-requires-clause-ready : goal.publish-requires-clause-ready
publish-requires-clause-ready c =
    let ready : IsTrue c.is_ready.result = search rules in
    subst (λ (p : Plan). IsReady (λ _. Unit {0})
    (λ _ from to. slice_index from 0 < slice_index to 0) p.links
    (nodes_in c.args.self.now.writer.view.client.known) c.args.to)
    (sym c.args.self.now.sized) (c.is_ready.ensures ready)
