use Rattle.rcu_node.proofs.EachSet.{some_masks}
use Rattle.rcu_node.proofs.laws.each_set_has_a_list_of_masks.Goals as goal

pub returns : goal.returns
returns c = some_masks
