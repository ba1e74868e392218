use Rattle.std.proofs.Common.{◌≡◌, false, subst}
use Rattle.rcu_cblist.specs.SegList.{begins_with_marker}
use Rattle.rcu_cblist.proofs.Taking.{counted_done, now_first}
use Rattle.rcu_cblist.proofs.seg_list.SegList.done_count.Goals as goal

pub returns-clause-count : goal.returns-clause-count
returns-clause-count g c = rw (← c.self.view_is) (counted_done c.self.inside.segments)

pub returns-clause-first : goal.returns-clause-first
returns-clause-first g c =
    let s = c.self.inside.segments in
    subst (λ v. begins_with_marker v.items ≡ false) c.self.view_is
    (now_first s.wait_number s.ready_number s.items.items s.done s.wait s.ready s.calls
    c.self.inside.segments.cut)
