use Rattle.std.proofs.Common.{◌≡◌, false, length, refl, sym, ap, subst, arith}
use Rattle.rcu_cblist.specs.SegList.{begins_with_marker, callbacks, front}
use Rattle.rcu_cblist.proofs.Popping.{popped_none, untaken_none}
use Rattle.rcu_cblist.proofs.Refusals.{list_is}
use Rattle.rcu_cblist.proofs.Taking.{counted_done, now_first}
use Rattle.rcu_cblist.proofs.seg_list.SegList.pop_done.Goals as goal

pub pop-requires : goal.pop-requires
pop-requires g c =
    let counted = counted_done c.self.inside.segments in
    let same = ap (λ l. length (callbacks (front l.items))) c.self.view_is in
    let some = c.done_count.ensures.count in
    let test = c.if-done_count-eq0.false in
    omega arith

pub returns-then-done_count-eq0-clause-state : goal.returns-then-done_count-eq0-clause-state
returns-then-done_count-eq0-clause-state g c =
    let s = c.self.inside.segments in
    let none = c.done_count.ensures.count in
    let test = c.if-done_count-eq0.true in
    let first : begins_with_marker c.args.self.now.items ≡ false =
    subst (λ v. begins_with_marker v.items ≡ false) c.self.view_is
    (now_first s.wait_number s.ready_number s.items.items s.done s.wait s.ready s.calls
    c.self.inside.segments.cut) in
    list_is _ _ _ _ (sym (untaken_none 1 c.args.self.now.items first (omega arith))) refl

pub returns-then-done_count-eq0-clause-answer : goal.returns-then-done_count-eq0-clause-answer
returns-then-done_count-eq0-clause-answer g c =
    let none = c.done_count.ensures.count in
    let test = c.if-done_count-eq0.true in
    popped_none c.args.self.now.items (omega arith)
