use Rattle.std.proofs.Common.{refl}
use Rattle.std.proofs.lemmas.List.{map-set}
use Rattle.rcu_node.specs.declared.node.Node.{Node}
use Rattle.rcu_node.proofs.NodeWrites.{map_kept}
use Rattle.rcu_node.proofs.node.put_both.Goals as goal

pub returns-clause-now : goal.returns-clause-now
returns-clause-now c =
    let new : Node = record {
      qsmask = c.args.mask;
      qsmaskinit = c.args.mask;
      grpmask = c.index_mut-at.result.now.grpmask;
    } in
    map-set (λ (node : Node). node.qsmask) c.args.nodes.now.items c.args.node new

pub returns-clause-start : goal.returns-clause-start
returns-clause-start c =
    let new : Node = record {
      qsmask = c.args.mask;
      qsmaskinit = c.args.mask;
      grpmask = c.index_mut-at.result.now.grpmask;
    } in
    map-set (λ (node : Node). node.qsmaskinit) c.args.nodes.now.items c.args.node new

pub returns-clause-group : goal.returns-clause-group
returns-clause-group c =
    let new : Node = record {
      qsmask = c.args.mask;
      qsmaskinit = c.args.mask;
      grpmask = c.index_mut-at.result.now.grpmask;
    } in
    map_kept (λ node. node.grpmask) c.args.nodes.now.items c.args.node new c.index_mut-at.result.now
    c.index_mut-at.ensures.value refl
