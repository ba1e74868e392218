use Rattle.std.proofs.Common.{refl, arith}
use Rattle.rcu_defer.proofs.Shown.{advanced_both, advanced_one}
use Rattle.rcu_defer.proofs.marks.Marks.advance.Goals as goal

pub returns-then-self-number-2-clause-state : goal.returns-then-self-number-2-clause-state
returns-then-self-number-2-clause-state c =
    let m = c.self.inside in
    rw (← c.self.view_is)
    (advanced_one m.taken m.done m.first m.second (record { until = 0; count = 0 }) m.deferred
    m.seen c.args.number refl (omega arith) (omega arith))

pub returns-clause-state : goal.returns-clause-state
returns-clause-state c =
    let m = c.self.inside in
    rw (← c.self.view_is)
    (advanced_both m.taken m.done m.first m.second (record { until = 0; count = 0 })
    (record { until = 0; count = 0 }) m.deferred m.seen c.args.number refl refl (omega arith)
    (omega arith))
