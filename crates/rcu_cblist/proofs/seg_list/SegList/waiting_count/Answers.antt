use Rattle.std.proofs.Common.{arith}
use Rattle.rcu_cblist.specs.Segments.{seen}
use Rattle.rcu_cblist.proofs.Lists.{callbacks_parts}
use Rattle.rcu_cblist.proofs.Taking.{counted_calls, counted_done}
use Rattle.rcu_cblist.proofs.seg_list.SegList.waiting_count.Goals as goal

pub overflow_sub-result : goal.overflow_sub-result
overflow_sub-result g c =
    let s = c.self.inside.segments in
    let all = counted_calls s in
    let done = counted_done s in
    let parts = callbacks_parts (seen s) in
    omega arith

pub returns : goal.returns
returns g c =
    let s = c.self.inside.segments in
    let all = counted_calls s in
    let done = counted_done s in
    let parts = callbacks_parts (seen s) in
    rw (← c.self.view_is) (omega arith)
