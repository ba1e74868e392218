use Rattle.rcu_node.proofs.CpuSetLemmas.{is_in-listed_any}
use Rattle.rcu_node.proofs.laws.listed_holds_what_passes.Goals as goal

pub returns : goal.returns
returns c = is_in-listed_any
