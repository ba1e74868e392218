use Rattle.std.proofs.Common.{sym, subst}
use Rattle.rcu_report.specs.History.{Represents}
use Rattle.rcu_report.specs.Replica.{Replicated}
use Rattle.rcu_script.specs.PairHistory.{calls_of}
use Rattle.rcu_script.proofs.PairCalls.{are_made}
use Rattle.rcu_script.proofs.pair.laws.replicas_are_as_their_calls_say.Goals as goal

pub returns-clause-a : goal.returns-clause-a
returns-clause-a c = λ size lines.
    let m = (are_made size lines).first in
    subst (λ (r : Replicated). Represents r (calls_of size lines).a) (sym m.is)
    (c.replica_is_as_its_history_says.ensures.says size.cpus size.last _ m.accepted)

pub returns-clause-b : goal.returns-clause-b
returns-clause-b c = λ size lines.
    let m = (are_made size lines).second in
    subst (λ (r : Replicated). Represents r (calls_of size lines).b) (sym m.is)
    (c.replica_is_as_its_history_says.ensures.says size.cpus size.last _ m.accepted)
