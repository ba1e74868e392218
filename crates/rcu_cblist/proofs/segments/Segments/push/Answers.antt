use Rattle.std.proofs.Common.{arith}
use Rattle.rcu_cblist.proofs.Cuts.{calls_within, pushed}
use Rattle.rcu_cblist.proofs.segments.Segments.push.Goals as goal

pub overflow_add-self : goal.overflow_add-self
overflow_add-self g c =
    let s = c.args.self.now in
    let few = calls_within s.items.items in
    let ok = s.items.ok in
    let small = s.items.small in
    let counted = c.args.self.now.cut.counted in
    omega arith

pub invariant_of-self : goal.invariant_of-self
invariant_of-self g c =
    let s = c.args.self.now in
    record {
      cut = rw c.push_back_reserved.ensures.items
          (pushed s.items.items c.args.call s.done s.wait s.ready s.calls s.wait_number
          s.ready_number c.args.self.now.cut);
    }
