use Rattle.std.proofs.Common.{◌∙◌}
use Rattle.rcu_graph.proofs.Starts.{one_stored}
use Rattle.rcu_graph.proofs.first_words.first_words.Goals as goal

pub loop-root-preserved : goal.loop-root-preserved
loop-root-preserved g c =
    let i = c.loop-root.invariant in
    let e = c.store_root.ensures in (
      e.length ∙ i.0,
      one_stored (g.F.Shape.first c.args.plan) c.loop-root.root c.args.plan.roots c.args.plan.links
          c.args.plan.words
          c.place_of.result _ _ i.1 c.place_of.ensures.place e.stored e.others,
    )
