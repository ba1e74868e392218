use Rattle.std.proofs.Common.{length, ap, sym, ◌∙◌, arith}
use Rattle.rcu_cblist.proofs.Refusals.{entrain_refused}
use Rattle.rcu_cblist.proofs.Taking.{seen_length}
use Rattle.rcu_cblist.proofs.seg_list.SegList.entrain.Goals as goal

pub returns-in_default-clause-fault : goal.returns-in_default-clause-fault
returns-in_default-clause-fault g c =
    let s = c.self.inside.segments in
    let kept = s.items.ok in
    let all = seen_length s in
    let room = ap (λ l. l.room) c.self.view_is in
    let items = ap (λ l. length l.items) c.self.view_is in
    let full = c.in_default.ensures.full in
    entrain_refused c.args.self.now (sym c.is_empty.ensures.empty ∙ c.if-is_empty.false)
    (omega arith)
