use Rattle.rcu_map.proofs.Behind.{behind_0}
use Rattle.rcu_map.proofs.laws.each_key_lies_behind_0.Goals as goal

pub returns : goal.returns
returns c = behind_0
