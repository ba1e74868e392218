use Rattle.std.proofs.Common.{sym, ap, ◌∙◌}
use Rattle.rcu_report.specs.Replica.{Replicated}
use Rattle.rcu_script.proofs.PairCalls.{are_made, equal_sets_are_same}
use Rattle.rcu_script.proofs.pair.laws.equally_heard_replicas_are_the_same.Goals as goal

pub returns : goal.returns
returns c = λ size lines tags began heard.
    let m = are_made size lines in
    equal_sets_are_same _ _
    (ap (λ (r : Replicated). r.awaited) m.first.is
    ∙ c.equally_heard_replicas_await_the_same.ensures size.cpus size.last size.last _ _
    m.first.accepted m.second.accepted tags began heard
    ∙ sym (ap (λ (r : Replicated). r.awaited) m.second.is))
