use Rattle.rcu_geometry.proofs.Children.{some_cpu}
use Rattle.rcu_geometry.proofs.laws.each_leaf_has_a_processor.Goals as goal

pub returns : goal.returns
returns c = λ s node legal from below.
    let cpu = some_cpu s node legal from below in (cpu.0, cpu.1.below, cpu.1.leaf, cpu.1.bit)
