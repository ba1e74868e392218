use Rattle.std.proofs.Common.{◌+◌, ◌-◌, ◌++◌, take, ap, sym, ◌∙◌, arith}
use Rattle.rcu_cblist.specs.SegList.{markers}
use Rattle.rcu_cblist.specs.Cuts.{AreTails}
use Rattle.rcu_cblist.specs.Segments.{seen}
use Rattle.rcu_cblist.proofs.Cuts.{same_calls, same_items}
use Rattle.rcu_cblist.proofs.Lists.{taken_least}
use Rattle.rcu_cblist.proofs.Taking.{calls_all, falls, now_callbacks, now_done, now_markers}
use Rattle.rcu_cblist.proofs.Taking.{taken_seen, taken_tails}
use Rattle.rcu_cblist.proofs.Refusals.{list_is}
use Rattle.rcu_cblist.proofs.segments.Segments.take.Goals as goal

-- the callbacks that are taken are there
pub take_first-markers-requires-clause-there : goal.take_first-markers-requires-clause-there
take_first-markers-requires-clause-there g c =
    let s = c.args.self.now in
    let k = c.args.self.now.cut in
    let few = c.requires.done in
    let all = calls_all s.items.items s.done k.done_tail in
    omega arith

pub fall-requires : goal.fall-requires
fall-requires g c =
    let e = c.take_first-markers.ensures.left in
    let far = falls c.args.self.now c.args.most (c.args.most + c.take_first-markers.result)
    c.take_first-markers.new.items.items c.requires.done e.gone e.left e.items in
    record { items = far.in_done; calls = c.requires.done }

pub fall-requires-2 : goal.fall-requires-2
fall-requires-2 g c =
    let e = c.take_first-markers.ensures.left in
    let far = falls c.args.self.now c.args.most (c.args.most + c.take_first-markers.result)
    c.take_first-markers.new.items.items c.requires.done e.gone e.left e.items in
    record { items = far.in_wait; calls = far.of_wait }

pub fall-requires-3 : goal.fall-requires-3
fall-requires-3 g c =
    let e = c.take_first-markers.ensures.left in
    let far = falls c.args.self.now c.args.most (c.args.most + c.take_first-markers.result)
    c.take_first-markers.new.items.items c.requires.done e.gone e.left e.items in
    record { items = far.in_ready; calls = far.of_ready }

pub overflow_sub-self : goal.overflow_sub-self
overflow_sub-self g c =
    let e = c.take_first-markers.ensures.left in
    let far = falls c.args.self.now c.args.most (c.args.most + c.take_first-markers.result)
    c.take_first-markers.new.items.items c.requires.done e.gone e.left e.items in
    far.of_all

-- the rest is cut as it has to be
kept : (g : _) (c : goal.After-fall-3 g)
    → AreTails c.take_first-markers.new.items.items c.fall.new.self c.fall-2.new.self
    c.fall-3.new.self (c.args.self.now.calls - c.args.most) c.args.self.now.wait_number
    c.args.self.now.ready_number
kept g c =
    let s = c.args.self.now in
    let e = c.take_first-markers.ensures.left in
    taken_tails s.wait_number s.ready_number s.items.items s.done s.wait s.ready s.calls
    c.args.self.now.cut c.args.most (c.args.most + c.take_first-markers.result)
    c.take_first-markers.new.items.items c.requires.done e.gone e.left e.items c.fall.new.self
    c.fall-2.new.self c.fall-3.new.self (s.calls - c.args.most) (same_items _ _ c.fall.ensures)
    (same_calls _ _ c.fall.ensures) (same_items _ _ c.fall-2.ensures)
    (same_calls _ _ c.fall-2.ensures) (same_items _ _ c.fall-3.ensures)
    (same_calls _ _ c.fall-3.ensures) (omega arith)

pub invariant_of-self : goal.invariant_of-self
invariant_of-self g c = record { cut = kept g c }

pub returns-clause-calls : goal.returns-clause-calls
returns-clause-calls g c =
    let s = c.args.self.now in
    let few = c.requires.done in
    let done = now_done s.wait_number s.ready_number s.items.items s.done s.wait s.ready s.calls
    c.args.self.now.cut in
    c.take_first-markers.ensures.calls
    ∙ ap (λ l. c.args.calls.now.items ++ l)
    (ap (take c.args.most)
    (sym (now_callbacks s.wait_number s.ready_number s.items.items s.done s.wait s.ready s.calls
    c.args.self.now.cut))
    ∙ taken_least c.args.most c.args.most (seen s) (omega arith))

pub returns-clause-state : goal.returns-clause-state
returns-clause-state g c =
    let s = c.args.self.now in
    let e = c.take_first-markers.ensures.left in
    list_is _ _ _ _
    (taken_seen s.wait_number s.ready_number s.items.items s.done s.wait s.ready s.calls
    c.args.self.now.cut c.args.most (c.args.most + c.take_first-markers.result)
    c.take_first-markers.new.items.items c.requires.done e.gone e.left e.items c.fall.new.self.items
    c.fall-2.new.self.items c.fall-3.new.self.items (same_items _ _ c.fall.ensures)
    (same_items _ _ c.fall-2.ensures)
    (same_items _ _ c.fall-3.ensures))
    c.take_first-markers.ensures.left.capacity

pub returns-clause-markers : goal.returns-clause-markers
returns-clause-markers g c =
    let s = c.args.self.now in
    let e = c.take_first-markers.ensures.left in
    let before = now_markers s.wait_number s.ready_number s.items.items s.done s.wait s.ready
    s.calls c.args.self.now.cut in
    let left = now_markers s.wait_number s.ready_number c.take_first-markers.new.items.items
    c.fall.new.self c.fall-2.new.self c.fall-3.new.self (s.calls - c.args.most) (kept g c.before) in
    let seen_left = ap (λ l. markers l.items) (returns-clause-state g c) in
    let counted = e.markers in
    omega arith
