use Rattle.std.proofs.Common.{length, ap, refl, arith}
use Rattle.rcu_cblist.proofs.Refusals.{queue_refused}
use Rattle.rcu_cblist.proofs.Taking.{seen_length}
use Rattle.rcu_cblist.proofs.seg_list.SegList.queue.Goals as goal

pub returns-in_default-clause-fault : goal.returns-in_default-clause-fault
returns-in_default-clause-fault g c =
    let s = c.self.inside.segments in
    let kept = s.items.ok in
    let all = seen_length s in
    let room = ap (λ l. l.room) c.self.view_is in
    let items = ap (λ l. length l.items) c.self.view_is in
    let full = c.in_default.ensures.full in
    record { fault = queue_refused c.args.self.now (omega arith); value = refl }
