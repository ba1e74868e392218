use Rattle.rcu_hotplug.proofs.Histories.{told}
use Rattle.rcu_hotplug.proofs.laws.calls_leave_what_their_history_says.Goals as goal

pub returns : goal.returns
returns c = told
