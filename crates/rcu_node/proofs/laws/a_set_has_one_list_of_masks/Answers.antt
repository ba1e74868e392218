use Rattle.rcu_node.proofs.SameMasks.{same_masks}
use Rattle.rcu_node.proofs.laws.a_set_has_one_list_of_masks.Goals as goal

pub returns : goal.returns
returns c = same_masks
