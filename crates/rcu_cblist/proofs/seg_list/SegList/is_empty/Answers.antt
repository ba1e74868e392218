use Rattle.std.proofs.Common.{◌∙◌, arith}
use Rattle.rcu_cblist.proofs.Taking.{seen_empty}
use Rattle.rcu_cblist.proofs.seg_list.SegList.is_empty.Goals as goal

pub returns-clause-empty : goal.returns-clause-empty
returns-clause-empty g c =
    let s = c.self.inside.segments in
    let ok = s.items.ok in
    rw (← c.self.view_is) (c.is_empty.ensures ∙ seen_empty s s.items.len (omega arith))
