use Rattle.std.proofs.Common.{length, take, drop, refl, ap, sym, ◌∙◌, arith}
use Rattle.rcu_cblist.specs.SegList.{after_migrate, as_it_leaves}
use Rattle.rcu_cblist.specs.Cuts.{between}
use Rattle.rcu_cblist.specs.Segments.{joined, seen}
use Rattle.rcu_cblist.proofs.Refusals.{list_is, move_refused}
use Rattle.rcu_cblist.proofs.Taking.{empty_is, leaving_length, seen_length}
use Rattle.rcu_cblist.proofs.seg_list.SegList.move_into.Goals as goal

pub returns-clause-target : goal.returns-clause-target
returns-clause-target g c =
    let s = c.self.inside.segments in
    let t = c.target.inside.segments in
    let leaving = as_it_leaves (seen s) c.args.marked in
    rw (← c.self.view_is, ← c.target.view_is)
    (c.carry_into.ensures.target
    ∙ ap (λ xs.
    after_migrate
    (joined t.wait_number t.ready_number (take t.done.items xs)
    (between t.done.items t.wait.items xs) (between t.wait.items t.ready.items xs)
    (drop t.ready.items xs))
    leaving)
    c.reserve.ensures.items)

pub returns-then-is_empty-clause-state : goal.returns-then-is_empty-clause-state
returns-then-is_empty-clause-state g c =
    let none = sym c.is_empty.ensures.empty ∙ c.if-is_empty.true in
    list_is _ _ _ _ (empty_is c.args.self.now.items none) refl

pub returns-in_default-clause-fault : goal.returns-in_default-clause-fault
returns-in_default-clause-fault g c =
    let s = c.self.inside.segments in
    let t = c.target.inside.segments in
    let kept = s.items.ok in
    let there = t.items.ok in
    let some = sym c.is_empty.ensures.empty ∙ c.if-is_empty.false in
    let long = leaving_length c.args.self.now.items c.args.marked some in
    let all = seen_length s in
    let all_there = seen_length t in
    let items = ap (λ l. length l.items) c.self.view_is in
    let room = ap (λ l. l.room) c.target.view_is in
    let there_is = ap (λ l. length l.items) c.target.view_is in
    let full = c.in_default.ensures.full in
    let more = c.from.ensures in
    let len = c.len.ensures in
    move_refused c.args.self.now c.args.marked c.args.target.now some (omega arith)
