use Rattle.rcu_cpu.proofs.Histories.{depth_is_nesting, exits_within_enters}
use Rattle.rcu_cpu.proofs.laws.depth_is_enters_less_exits.Goals as goal

pub returns : goal.returns
returns c = record { depth = depth_is_nesting; exits = exits_within_enters }
