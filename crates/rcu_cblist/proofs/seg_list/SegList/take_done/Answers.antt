use Rattle.std.proofs.Common.{◌≡◌, ◌-◌, ◌++◌, length, ap, ◌∙◌, arith}
use Rattle.std.specs.VecDeque.{deque_capacity}
use Rattle.rcu_cblist.specs.SegList.{callbacks, from_callback, front, markers, take_answer}
use Rattle.rcu_cblist.specs.Segments.{seen}
use Rattle.rcu_cblist.proofs.Lists.{length_taken, taken_fewer}
use Rattle.rcu_cblist.proofs.Refusals.{list_of, take_refused}
use Rattle.rcu_cblist.proofs.Taking.{counted_done}
use Rattle.rcu_cblist.proofs.seg_list.SegList.take_done.Goals as goal

pub take-markers-requires-clause-done : goal.take-markers-requires-clause-done
take-markers-requires-clause-done g c =
    let most = c.min-most.ensures in
    let done = c.done_count.ensures.count in
    let counted = counted_done c.self.inside.segments in
    let same = ap (λ l. length (callbacks (front l.items))) c.self.view_is in
    omega arith

-- as many as may be taken, or all that are done
fewer : (g : _) (c : goal.After-take-markers g)
    → take_answer (seen c.self.inside.segments) c.min-most.result
    ≡ take_answer (seen c.self.inside.segments) c.args.max
fewer g c =
    let most = c.min-most.ensures in
    let done = c.done_count.ensures.count in
    let same = ap (λ l. length (callbacks (front l.items))) c.self.view_is in
    taken_fewer c.args.max c.min-most.result (seen c.self.inside.segments) (omega arith)

pub returns-clause-calls : goal.returns-clause-calls
returns-clause-calls g c =
    let s = seen c.self.inside.segments in
    rw (← c.self.view_is)
    (c.take-markers.ensures.calls
    ∙ (ap (λ l. l ++ take_answer s c.min-most.result)
    (c.reserve.ensures.items ∙ c.new-calls.ensures.items)
    ∙ fewer g c))

pub returns-clause-markers : goal.returns-clause-markers
returns-clause-markers g c =
    let s = seen c.self.inside.segments in
    rw (← c.self.view_is) (c.take-markers.ensures.markers ∙
    ap (λ l. markers s - markers (from_callback (length l) s)) (fewer g c))

pub returns-clause-state : goal.returns-clause-state
returns-clause-state g c =
    let s = c.self.inside.segments in
    rw (← c.self.view_is) (c.take-markers.ensures.state
    ∙ ap (λ l. list_of (from_callback (length l) (seen s)) (deque_capacity s.items)) (fewer g c))

pub returns-in_default-clause-fault : goal.returns-in_default-clause-fault
returns-in_default-clause-fault g c =
    let most = c.min-most.ensures in
    let done = c.done_count.ensures.count in
    let new = c.new-calls.ensures in
    let full = c.in_default.ensures.full in
    let long = length_taken c.args.max c.args.self.now.items in
    take_refused c.args.self.now.items c.args.max (omega arith)
