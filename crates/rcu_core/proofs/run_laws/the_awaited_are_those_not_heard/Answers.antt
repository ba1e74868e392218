use Rattle.rcu_core.proofs.Heard.{awaited_are}
use Rattle.rcu_core.proofs.run_laws.the_awaited_are_those_not_heard.Goals as goal

pub returns : goal.returns
returns c = λ size h cpu accepted within. awaited_are size cpu h accepted within
