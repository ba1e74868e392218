use Rattle.std.proofs.Common.{◌∙◌, ap, map, List}
use Rattle.rcu_node.specs.declared.node.Node.{Node}
use Rattle.rcu_node.proofs.Marks.{map_copies}
use Rattle.rcu_node.proofs.making.blank.Goals as goal

pub returns-clause-now : goal.returns-clause-now
returns-clause-now c =
    let empty : Node = record { qsmask = 0; qsmaskinit = 0; grpmask = 0 } in
    ap (λ (nodes : List Node). map (λ node. node.qsmask) nodes)
    (c.in_ok-nodes.ensures.items_if_clones_equal (λ y same. same))
    ∙ map_copies (λ node. node.qsmask) c.args.count empty

pub returns-clause-start : goal.returns-clause-start
returns-clause-start c =
    let empty : Node = record { qsmask = 0; qsmaskinit = 0; grpmask = 0 } in
    ap (λ (nodes : List Node). map (λ node. node.qsmaskinit) nodes)
    (c.in_ok-nodes.ensures.items_if_clones_equal (λ y same. same))
    ∙ map_copies (λ node. node.qsmaskinit) c.args.count empty

pub returns-clause-group : goal.returns-clause-group
returns-clause-group c =
    let empty : Node = record { qsmask = 0; qsmaskinit = 0; grpmask = 0 } in
    ap (λ (nodes : List Node). map (λ node. node.grpmask) nodes)
    (c.in_ok-nodes.ensures.items_if_clones_equal (λ y same. same))
    ∙ map_copies (λ node. node.grpmask) c.args.count empty
