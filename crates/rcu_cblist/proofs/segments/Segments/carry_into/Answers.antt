use Rattle.std.proofs.Common.{◌≡◌, ◌<◌, ◌+◌, ◌++◌, length, take, drop, ap, sym, ◌∙◌}
use Rattle.std.proofs.Common.{take-append-drop, arith}
use Rattle.rcu_cblist.specs.SegList.{as_it_leaves, callbacks}
use Rattle.rcu_cblist.specs.Entries.{moved_behind, moved_in_front, unmarked}
use Rattle.rcu_cblist.specs.Segments.{seen}
use Rattle.rcu_cblist.proofs.Cuts.{calls_joined, calls_within, same_calls, same_items}
use Rattle.rcu_cblist.proofs.Carrying.{Leaves, behind_calls, carried_seen, carried_tails}
use Rattle.rcu_cblist.proofs.Carrying.{front_calls, leaves, tail_few}
use Rattle.rcu_cblist.proofs.segments.Segments.carry_into.Goals as goal

pub rise-requires-clause-calls : goal.rise-requires-clause-calls
rise-requires-clause-calls g c =
    let s = c.args.self.now in
    let t = c.args.target.now in
    let few = tail_few s.items.items s.done c.args.self.now.cut.done_tail in
    let few_there = tail_few t.items.items t.done c.args.target.now.cut.done_tail in
    let same = ap (λ tail. tail.calls) c.lose_numbers.ensures.next in
    let ok = s.items.ok in
    let ok_there = t.items.ok in
    let small = s.items.small in
    let small_there = t.items.small in
    let fits : t.done.calls + c.lose_numbers.new.self.ready.calls < 18446744073709551616 =
    omega arith in
    fits

pub rise-requires-2-clause-calls : goal.rise-requires-2-clause-calls
rise-requires-2-clause-calls g c =
    let s = c.args.self.now in
    let t = c.args.target.now in
    let few = tail_few s.items.items s.done c.args.self.now.cut.done_tail in
    let few_there = tail_few t.items.items t.wait c.args.target.now.cut.wait_tail in
    let same = ap (λ tail. tail.calls) c.lose_numbers.ensures.next in
    let ok = s.items.ok in
    let ok_there = t.items.ok in
    let small = s.items.small in
    let small_there = t.items.small in
    omega arith

pub rise-requires-3-clause-calls : goal.rise-requires-3-clause-calls
rise-requires-3-clause-calls g c =
    let s = c.args.self.now in
    let t = c.args.target.now in
    let few = tail_few s.items.items s.done c.args.self.now.cut.done_tail in
    let few_there = tail_few t.items.items t.ready c.args.target.now.cut.ready_tail in
    let same = ap (λ tail. tail.calls) c.lose_numbers.ensures.next in
    let ok = s.items.ok in
    let ok_there = t.items.ok in
    let small = s.items.small in
    let small_there = t.items.small in
    omega arith

pub overflow_add-target : goal.overflow_add-target
overflow_add-target g c =
    let s = c.args.self.now in
    let t = c.args.target.now in
    let few = calls_within s.items.items in
    let few_there = calls_within t.items.items in
    let counted = c.args.self.now.cut.counted in
    let counted_there = c.args.target.now.cut.counted in
    let same = c.lose_numbers.ensures.calls in
    let ok = s.items.ok in
    let ok_there = t.items.ok in
    let small = s.items.small in
    let small_there = t.items.small in
    omega arith

-- the parts that go in front and behind
parts : (g : _) (c : goal.After-rise-3 g)
    → let s = c.args.self.now in
    Leaves (as_it_leaves (seen s) c.args.marked)
    (moved_in_front s.items.items s.done.items c.args.marked)
    (moved_behind s.items.items s.done.items c.args.marked)
parts g c =
    let s = c.args.self.now in
    let k = c.args.self.now.cut in
    leaves s.wait_number s.ready_number s.done.items s.wait.items s.ready.items s.items.items
    c.args.marked k.wait_behind k.ready_behind k.ready_tail.within k.segments c.requires.some

-- the parts around the target's items
around : (g : _) (c : goal.After-rise-3 g) →
    let s = c.args.self.now in
    c.join_marked.new.target.items ≡ moved_in_front s.items.items s.done.items c.args.marked
    ++ (c.args.target.now.items.items ++ moved_behind s.items.items s.done.items c.args.marked)
around g c =
    let items = ap (λ q. q.items) c.lose_numbers.ensures.items in
    let place = ap (λ tail. tail.items) c.lose_numbers.ensures.next in
    rw (← items, ← place) c.join_marked.ensures.target.items

-- how many went in front
ahead : (g : _) (c : goal.After-rise-3 g) →
    let s = c.args.self.now in
    c.join_marked.result ≡ length (moved_in_front s.items.items s.done.items c.args.marked)
ahead g c =
    let items = ap (λ q. q.items) c.lose_numbers.ensures.items in
    let place = ap (λ tail. tail.items) c.lose_numbers.ensures.next in
    rw (← items, ← place) c.join_marked.ensures.front

-- with how many callbacks
ahead_calls : (g : _) (c : goal.After-rise-3 g) →
    let s = c.args.self.now in
    c.lose_numbers.new.self.ready.calls
    ≡ length (callbacks (unmarked (moved_in_front s.items.items s.done.items c.args.marked)))
ahead_calls g c =
    let s = c.args.self.now in
    ap (λ tail. tail.calls) c.lose_numbers.ensures.next
    ∙ (c.args.self.now.cut.done_tail.calls
    ∙ sym (front_calls s.items.items s.done.items c.args.marked))

pub invariant_of-target : goal.invariant_of-target
invariant_of-target g c =
    let s = c.args.self.now in
    let t = c.args.target.now in
    let xs = s.items.items in
    let m = c.args.marked in
    let p = parts g c in
    let first = front_calls xs s.done.items m in
    let last = behind_calls xs s.done.items m in
    let both = calls_joined (take s.done.items xs) (drop s.done.items xs) in
    let whole = ap (λ l. length (callbacks (unmarked l))) (take-append-drop s.done.items xs) in
    let own = c.args.self.now.cut.counted in
    let same = c.lose_numbers.ensures.calls in
    record {
      cut = rw (around g c)
          (carried_tails t.wait_number t.ready_number (moved_in_front xs s.done.items m)
          t.items.items (moved_behind xs s.done.items m) t.done t.wait t.ready
          (record { items = c.join_marked.result; calls = c.lose_numbers.new.self.ready.calls })
          t.calls c.args.target.now.cut p.front_first p.behind_first (ahead g c) (ahead_calls g c)
          c.rise.new.self c.rise-2.new.self c.rise-3.new.self
          (t.calls + c.lose_numbers.new.self.calls) (same_items _ _ c.rise.ensures)
          (same_calls _ _ c.rise.ensures)
          (same_items _ _ c.rise-2.ensures) (same_calls _ _ c.rise-2.ensures)
          (same_items _ _ c.rise-3.ensures)
          (same_calls _ _ c.rise-3.ensures) (omega arith));
    }

pub returns-clause-target : goal.returns-clause-target
returns-clause-target g c =
    let s = c.args.self.now in
    let t = c.args.target.now in
    let xs = s.items.items in
    let m = c.args.marked in
    let p = parts g c.before.before in
    rw (around g c.before.before)
    (carried_seen t.wait_number t.ready_number (moved_in_front xs s.done.items m) t.items.items
    (moved_behind xs s.done.items m) t.done t.wait t.ready
    (record { items = c.join_marked.result; calls = c.lose_numbers.new.self.ready.calls }) t.calls
    c.args.target.now.cut p.front_first p.behind_first (ahead g c.before.before)
    (ahead_calls g c.before.before) (as_it_leaves (seen s) m) c.rise.new.self.items
    c.rise-2.new.self.items c.rise-3.new.self.items p (same_items _ _ c.rise.ensures)
    (same_items _ _ c.rise-2.ensures)
    (same_items _ _ c.rise-3.ensures))
