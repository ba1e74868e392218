use Rattle.std.proofs.Common.{◌+◌, ◌-◌, refl, arith}
use Rattle.rcu_defer.proofs.Batches.{no_second, second_is}
use Rattle.rcu_defer.proofs.Shown.{marked_same, marked_second}
use Rattle.rcu_defer.proofs.marks.Marks.mark.Goals as goal

pub returns-then-self-until : goal.returns-then-self-until
returns-then-self-until c =
    let m = c.self.inside in
    let inside = c.self.invariant.inside in
    let until = c.snapshot-until.ensures in
    let same = c.if-self-until.true in
    let none = no_second m.first.until m.second.count m.second.until m.seen
    c.self.invariant.ascending c.self.invariant.second_ahead (omega arith) in
    rw (← c.self.view_is) (marked_same m.taken m.done m.first m.second (record {
      until = m.first.until;
      count = m.first.count + (m.deferred - m.done - m.first.count - m.second.count);
    }) m.deferred m.seen none (omega arith) refl (omega arith) (omega arith))

pub returns-else-self-until : goal.returns-else-self-until
returns-else-self-until c =
    let m = c.self.inside in
    let inside = c.self.invariant.inside in
    rw (← c.self.view_is)
    (marked_second m.taken m.done m.first m.second
    (record {
      until = c.snapshot-until.result;
      count = m.second.count + (m.deferred - m.done - m.first.count - m.second.count);
    })
    m.deferred m.seen (λ some. second_is m.first.until m.second.until m.seen
    (c.self.invariant.first_ahead (omega arith)) (c.self.invariant.second_ahead some)
    (c.self.invariant.ascending some))
    c.snapshot-until.ensures (omega arith) inside)
