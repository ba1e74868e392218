use Rattle.rcu_core.proofs.Heard.{alike_awaited}
use Rattle.rcu_core.proofs.run_laws.equally_heard_cores_await_the_same.Goals as goal

pub returns : goal.returns
returns c = alike_awaited
