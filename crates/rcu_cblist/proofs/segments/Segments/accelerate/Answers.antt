use Rattle.std.proofs.Common.{◌≡◌, length, refl, ◌∙◌, arith}
use Rattle.rcu_cblist.proofs.Cuts.{cut_early, cut_late, length_between, seen_at, segments_at}
use Rattle.rcu_cblist.proofs.Cuts.{segments_early, segments_late, tail_end}
use Rattle.rcu_cblist.proofs.Views.{accelerated_early, accelerated_late, accelerated_none}
use Rattle.rcu_cblist.proofs.Views.{below_false, below_true}
use Rattle.rcu_cblist.proofs.Refusals.{list_is}
use Rattle.rcu_cblist.proofs.segments.Segments.accelerate.Goals as goal

pub returns-then-ready_is_below : goal.returns-then-ready_is_below
returns-then-ready_is_below g c =
    let s = c.args.self.now in
    let k = c.args.self.now.cut in
    let long = length_between s.wait.items s.ready.items s.items.items k.ready_tail.within in
    let below =
    below_true s.wait.items s.ready.items _ _ _ c.ready_is_below.ensures c.if-ready_is_below.true in
    let some = below.0 in
    list_is _ _ _ _
    (accelerated_none c.args.snap s.wait_number s.ready_number _ _ _ _ k.segments (omega arith)
    below.1)
    refl

pub invariant_of-self : goal.invariant_of-self
invariant_of-self g c =
    let s = c.args.self.now in
    let k = c.args.self.now.cut in
    let xs = s.items.items in
    let end : c.len.result ≡ length xs =
    (let ok = s.items.ok in let len = c.len.ensures in omega arith) in
    let long = length_between s.done.items s.wait.items xs k.wait_tail.within in
    let below =
    below_true s.done.items s.wait.items _ _ _ c.wait_is_below.ensures c.if-wait_is_below.true in
    let some = below.0 in
    let within = k.ready_tail.within in
    let order = k.ready_behind in
    record {
      cut = record {
        done_tail = k.done_tail;
        wait_tail = k.wait_tail;
        ready_tail = tail_end xs _ end k.counted;
        counted = k.counted;
        wait_behind = k.wait_behind;
        ready_behind = omega arith;
        segments = segments_at _ _ xs _ _ _ _ _ _ _
            (cut_late xs s.done.items s.wait.items s.ready.items c.len.result k.wait_behind
            k.ready_behind within end)
            (segments_late s.wait_number s.ready_number c.args.snap _ _ _ _ k.segments (omega arith)
            below.1);
      };
    }

pub returns-then-wait_is_below : goal.returns-then-wait_is_below
returns-then-wait_is_below g c =
    let s = c.args.self.now in
    let k = c.args.self.now.cut in
    let xs = s.items.items in
    let end : c.len.result ≡ length xs =
    (let ok = s.items.ok in let len = c.len.ensures in omega arith) in
    let long = length_between s.wait.items s.ready.items xs k.ready_tail.within in
    list_is _ _ _ _
    (seen_at _ _ xs _ _ _ _ _ _ _
    (cut_late xs s.done.items s.wait.items s.ready.items c.len.result k.wait_behind k.ready_behind
    k.ready_tail.within end)
    ∙ accelerated_late c.args.snap s.wait_number s.ready_number _ _ _ _ k.segments c.requires
    (λ some. below_false s.wait.items s.ready.items _ _ _ c.ready_is_below.ensures
    c.if-ready_is_below.false (omega arith)))
    refl

pub invariant_of-self-else-wait_is_below : goal.invariant_of-self-else-wait_is_below
invariant_of-self-else-wait_is_below g c =
    let s = c.args.self.now in
    let k = c.args.self.now.cut in
    let xs = s.items.items in
    let end : c.len.result ≡ length xs =
    (let ok = s.items.ok in let len = c.len.ensures in omega arith) in
    let within = k.done_tail.within in
    record {
      cut = record {
        done_tail = k.done_tail;
        wait_tail = tail_end xs _ end k.counted;
        ready_tail = tail_end xs _ end k.counted;
        counted = k.counted;
        wait_behind = omega arith;
        ready_behind = omega arith;
        segments = segments_at _ _ xs _ _ _ _ _ _ _
            (cut_early xs s.done.items s.wait.items s.ready.items c.len.result k.wait_behind
            k.ready_behind k.ready_tail.within end)
            (segments_early s.wait_number s.ready_number c.args.snap _ _ _ _ k.segments);
      };
    }

pub returns-else-wait_is_below : goal.returns-else-wait_is_below
returns-else-wait_is_below g c =
    let s = c.args.self.now in
    let k = c.args.self.now.cut in
    let xs = s.items.items in
    let end : c.len.result ≡ length xs =
    (let ok = s.items.ok in let len = c.len.ensures in omega arith) in
    let long = length_between s.done.items s.wait.items xs k.wait_tail.within in
    list_is _ _ _ _
    (seen_at _ _ xs _ _ _ _ _ _ _
    (cut_early xs s.done.items s.wait.items s.ready.items c.len.result k.wait_behind k.ready_behind
    k.ready_tail.within end)
    ∙ accelerated_early c.args.snap s.wait_number s.ready_number _ _ _ _ k.segments c.requires
    (λ some. below_false s.done.items s.wait.items _ _ _ c.wait_is_below.ensures
    c.if-wait_is_below.false (omega arith)))
    refl
