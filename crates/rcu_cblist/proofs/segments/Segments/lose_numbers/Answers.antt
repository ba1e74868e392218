use Rattle.std.proofs.Common.{refl, ◌∙◌, arith}
use Rattle.rcu_cblist.proofs.Cuts.{cut_lost, segments_at, segments_lost, seen_at}
use Rattle.rcu_cblist.proofs.Views.{renumbered}
use Rattle.rcu_cblist.proofs.Refusals.{list_is}
use Rattle.rcu_cblist.proofs.segments.Segments.lose_numbers.Goals as goal

pub invariant_of-self : goal.invariant_of-self
invariant_of-self g c =
    let s = c.args.self.now in
    let k = c.args.self.now.cut in
    let xs = s.items.items in
    record {
      cut = record {
        done_tail = k.done_tail;
        wait_tail = k.done_tail;
        ready_tail = k.done_tail;
        counted = k.counted;
        wait_behind = omega arith;
        ready_behind = omega arith;
        segments = segments_at _ _ xs _ _ _ _ _ _ _
            (cut_lost xs s.done.items s.wait.items s.ready.items k.wait_behind k.ready_behind)
            (segments_lost _ _ _ _ _ _ k.segments);
      };
    }

pub returns-clause-state : goal.returns-clause-state
returns-clause-state g c =
    let s = c.args.self.now in
    let k = c.args.self.now.cut in
    let xs = s.items.items in
    list_is _ _ _ _ (seen_at s.wait_number s.ready_number xs _ _ _ _ _ _ _
    (cut_lost xs s.done.items s.wait.items s.ready.items k.wait_behind k.ready_behind)
    ∙ renumbered s.wait_number s.ready_number _ _ _ _) refl
