use Rattle.rcu_geometry.proofs.Children.{some_child}
use Rattle.rcu_geometry.proofs.laws.each_inner_node_has_a_child.Goals as goal

pub returns : goal.returns
returns c = λ s node legal inner.
    let child = some_child s node legal inner in
    (child.0, child.1.other, child.1.below, child.1.parent, child.1.bit)
