use Rattle.rcu_node.proofs.Heard.{equally_heard}
use Rattle.rcu_node.proofs.laws.equally_heard_await_the_same.Goals as goal

pub returns : goal.returns
returns c = equally_heard
