use Rattle.std.proofs.Common.{length, ap, arith}
use Rattle.rcu_cblist.proofs.Taking.{seen_length}
use Rattle.rcu_cblist.proofs.seg_list.SegList.shrink.Goals as goal

pub returns-clause-empty : goal.returns-clause-empty
returns-clause-empty g c none =
    let s = c.self.inside.segments in
    let kept = s.items.ok in
    let all = seen_length s in
    let long = ap (λ l. length l.items) c.self.view_is in
    let some = ap length none in
    c.shrink_to_fit.ensures.frees (omega arith)
