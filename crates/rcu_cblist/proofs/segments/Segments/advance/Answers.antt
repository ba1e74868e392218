use Rattle.std.proofs.Common.{refl, ◌∙◌, arith}
use Rattle.rcu_cblist.proofs.Cuts.{cut_both, cut_one, length_between, seen_at, segments_at}
use Rattle.rcu_cblist.proofs.Cuts.{segments_both, segments_one}
use Rattle.rcu_cblist.proofs.Views.{advanced_both, advanced_none, advanced_one, test_false}
use Rattle.rcu_cblist.proofs.Views.{test_true}
use Rattle.rcu_cblist.proofs.Refusals.{list_is}
use Rattle.rcu_cblist.proofs.segments.Segments.advance.Goals as goal

pub returns-then-not-wait_is_reached : goal.returns-then-not-wait_is_reached
returns-then-not-wait_is_reached g c =
    let s = c.args.self.now in
    let k = c.args.self.now.cut in
    let long = length_between s.done.items s.wait.items s.items.items k.wait_tail.within in
    list_is _ _ _ _
    (advanced_none c.args.number s.wait_number s.ready_number _ _ _ _ k.segments
    (λ some. test_false s.done.items s.wait.items _ _ _ c.wait_is_reached.ensures
    c.if-not-wait_is_reached.true (omega arith)))
    refl

pub invariant_of-self : goal.invariant_of-self
invariant_of-self g c =
    let s = c.args.self.now in
    let k = c.args.self.now.cut in
    let xs = s.items.items in
    record {
      cut = record {
        done_tail = k.ready_tail;
        wait_tail = k.ready_tail;
        ready_tail = k.ready_tail;
        counted = k.counted;
        wait_behind = omega arith;
        ready_behind = omega arith;
        segments = segments_at _ _ xs _ _ _ _ _ _ _
            (cut_both xs s.done.items s.wait.items s.ready.items k.wait_behind k.ready_behind)
            (segments_both _ _ _ _ _ _ k.segments);
      };
    }

pub returns-then-ready_is_reached : goal.returns-then-ready_is_reached
returns-then-ready_is_reached g c =
    let s = c.args.self.now in
    let k = c.args.self.now.cut in
    let first = test_true s.done.items s.wait.items _ _ _ c.wait_is_reached.ensures
    c.if-not-wait_is_reached.false in
    let second = test_true s.wait.items s.ready.items _ _ _ c.ready_is_reached.ensures
    c.if-ready_is_reached.true in
    list_is _ _ _ _ (seen_at _ _ s.items.items _ _ _ _ _ _ _
    (cut_both s.items.items s.done.items s.wait.items s.ready.items k.wait_behind k.ready_behind)
    ∙ advanced_both c.args.number s.wait_number s.ready_number _ _ _ _ first.1 second.1) refl

pub invariant_of-self-else-ready_is_reached : goal.invariant_of-self-else-ready_is_reached
invariant_of-self-else-ready_is_reached g c =
    let s = c.args.self.now in
    let k = c.args.self.now.cut in
    let xs = s.items.items in
    record {
      cut = record {
        done_tail = k.wait_tail;
        wait_tail = k.ready_tail;
        ready_tail = k.ready_tail;
        counted = k.counted;
        wait_behind = k.ready_behind;
        ready_behind = omega arith;
        segments = segments_at _ _ xs _ _ _ _ _ _ _
            (cut_one xs s.done.items s.wait.items s.ready.items k.wait_behind)
            (segments_one _ _ _ _ _ _ k.segments);
      };
    }

pub returns-else-ready_is_reached : goal.returns-else-ready_is_reached
returns-else-ready_is_reached g c =
    let s = c.args.self.now in
    let k = c.args.self.now.cut in
    let long = length_between s.wait.items s.ready.items s.items.items k.ready_tail.within in
    let first = test_true s.done.items s.wait.items _ _ _ c.wait_is_reached.ensures
    c.if-not-wait_is_reached.false in
    list_is _ _ _ _
    (seen_at _ _ s.items.items _ _ _ _ _ _ _
    (cut_one s.items.items s.done.items s.wait.items s.ready.items k.wait_behind)
    ∙ advanced_one c.args.number s.wait_number s.ready_number _ _ _ _ first.1
    (λ some. test_false s.wait.items s.ready.items _ _ _ c.ready_is_reached.ensures
    c.if-ready_is_reached.false (omega arith)))
    refl
