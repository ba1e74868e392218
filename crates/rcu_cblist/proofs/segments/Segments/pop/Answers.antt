use Rattle.std.proofs.Common.{◌≡◌, ◌∷◌, [], ◌+◌, ◌-◌, take, drop, ap, sym, ◌∙◌, arith}
use Rattle.rcu_cblist.specs.SegList.{after_take, markers, markers_passed, take_answer}
use Rattle.rcu_cblist.specs.Cuts.{AreTails, between}
use Rattle.rcu_cblist.specs.Entries.{unmarked}
use Rattle.rcu_cblist.specs.Segments.{joined, seen}
use Rattle.rcu_cblist.proofs.Cuts.{same_calls, same_items}
use Rattle.rcu_cblist.proofs.Lists.{taken_least}
use Rattle.rcu_cblist.proofs.Popping.{begins_some, popped}
use Rattle.rcu_cblist.proofs.Taking.{calls_all, falls, kept_first, now_callbacks, now_done}
use Rattle.rcu_cblist.proofs.Taking.{now_markers, taken_seen, taken_tails}
use Rattle.rcu_cblist.proofs.Refusals.{list_is}
use Rattle.rcu_cblist.proofs.segments.Segments.pop.Goals as goal

pub pop_first-call-requires : goal.pop_first-call-requires
pop_first-call-requires g c =
    let s = c.args.self.now in
    let k = c.args.self.now.cut in
    let few = c.requires in
    let all = calls_all s.items.items s.done k.done_tail in
    begins_some (unmarked s.items.items) (omega arith)
    (kept_first s.wait_number s.ready_number s.items.items s.done s.wait s.ready s.calls k)

pub fall-requires : goal.fall-requires
fall-requires g c =
    let e = c.pop_first-call.ensures.left in
    let far = falls c.args.self.now 1 (1 + c.pop_first-call.result.1)
    c.pop_first-call.new.items.items c.requires e.gone e.left e.items in
    record { items = far.in_done; calls = c.requires }

pub fall-requires-2 : goal.fall-requires-2
fall-requires-2 g c =
    let e = c.pop_first-call.ensures.left in
    let far = falls c.args.self.now 1 (1 + c.pop_first-call.result.1)
    c.pop_first-call.new.items.items c.requires e.gone e.left e.items in
    record { items = far.in_wait; calls = far.of_wait }

pub fall-requires-3 : goal.fall-requires-3
fall-requires-3 g c =
    let e = c.pop_first-call.ensures.left in
    let far = falls c.args.self.now 1 (1 + c.pop_first-call.result.1)
    c.pop_first-call.new.items.items c.requires e.gone e.left e.items in
    record { items = far.in_ready; calls = far.of_ready }

pub overflow_sub-self : goal.overflow_sub-self
overflow_sub-self g c =
    let e = c.pop_first-call.ensures.left in
    let far = falls c.args.self.now 1 (1 + c.pop_first-call.result.1)
    c.pop_first-call.new.items.items c.requires e.gone e.left e.items in
    far.of_all

-- the rest is cut as it has to be
kept : (g : _) (c : goal.After-fall-3 g)
    → AreTails c.pop_first-call.new.items.items c.fall.new.self c.fall-2.new.self c.fall-3.new.self
    (c.args.self.now.calls - 1) c.args.self.now.wait_number c.args.self.now.ready_number
kept g c =
    let s = c.args.self.now in
    let e = c.pop_first-call.ensures.left in
    taken_tails s.wait_number s.ready_number s.items.items s.done s.wait s.ready s.calls
    c.args.self.now.cut 1 (1 + c.pop_first-call.result.1) c.pop_first-call.new.items.items
    c.requires e.gone e.left e.items c.fall.new.self c.fall-2.new.self c.fall-3.new.self
    (s.calls - 1) (same_items _ _ c.fall.ensures) (same_calls _ _ c.fall.ensures)
    (same_items _ _ c.fall-2.ensures)
    (same_calls _ _ c.fall-2.ensures) (same_items _ _ c.fall-3.ensures)
    (same_calls _ _ c.fall-3.ensures) (omega arith)

pub invariant_of-self : goal.invariant_of-self
invariant_of-self g c = record { cut = kept g c }

-- the callback that is handed out
call : (g : _) (c : goal.After-fall-3 g)
    → c.pop_first-call.result.0 ∷ [] ≡ take_answer (seen c.args.self.now) 1
call g c =
    let s = c.args.self.now in
    let few = c.requires in
    let done = now_done s.wait_number s.ready_number s.items.items s.done s.wait s.ready s.calls
    c.args.self.now.cut in
    c.pop_first-call.ensures.call
    ∙ (ap (take 1)
    (sym (now_callbacks s.wait_number s.ready_number s.items.items s.done s.wait s.ready s.calls
    c.args.self.now.cut))
    ∙ taken_least 1 1 (seen s) (omega arith))

-- the rest of the list
left : (g : _) (c : goal.After-fall-3 g)
    → joined c.args.self.now.wait_number c.args.self.now.ready_number
    (take c.fall.new.self.items c.pop_first-call.new.items.items)
    (between c.fall.new.self.items c.fall-2.new.self.items c.pop_first-call.new.items.items)
    (between c.fall-2.new.self.items c.fall-3.new.self.items c.pop_first-call.new.items.items)
    (drop c.fall-3.new.self.items c.pop_first-call.new.items.items)
    ≡ after_take (seen c.args.self.now) 1
left g c =
    let s = c.args.self.now in
    let e = c.pop_first-call.ensures.left in
    taken_seen s.wait_number s.ready_number s.items.items s.done s.wait s.ready s.calls
    c.args.self.now.cut 1 (1 + c.pop_first-call.result.1) c.pop_first-call.new.items.items
    c.requires e.gone e.left e.items c.fall.new.self.items c.fall-2.new.self.items
    c.fall-3.new.self.items (same_items _ _ c.fall.ensures) (same_items _ _ c.fall-2.ensures)
    (same_items _ _ c.fall-3.ensures)

pub returns-clause-state : goal.returns-clause-state
returns-clause-state g c = list_is _ _ _ _ (left g c.before) c.pop_first-call.ensures.left.capacity

-- how many markers are gone
gone : (g : _) (c : goal.After-fall-3 g)
    → c.pop_first-call.result.1 ≡ markers_passed (seen c.args.self.now) 1
gone g c =
    let s = c.args.self.now in
    let e = c.pop_first-call.ensures.left in
    let before = now_markers s.wait_number s.ready_number s.items.items s.done s.wait s.ready
    s.calls c.args.self.now.cut in
    let rest = now_markers s.wait_number s.ready_number c.pop_first-call.new.items.items
    c.fall.new.self c.fall-2.new.self c.fall-3.new.self (s.calls - 1) (kept g c) in
    let seen_left = ap markers (left g c) in
    let counted = e.markers in
    omega arith

pub returns-clause-answer : goal.returns-clause-answer
returns-clause-answer g c =
    popped (seen c.args.self.now) c.pop_first-call.result.0 c.pop_first-call.result.1
    (call g c.before) (gone g c.before)
