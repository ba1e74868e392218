use Rattle.std.proofs.Common.{◌≡◌, ◌<◌, length, ap, refl, sym, subst}
use Rattle.rcu_barrier.specs.Lists.{IsSound, items_in, markers_in}
use Rattle.rcu_barrier.proofs.Popping.{popped_count}
use Rattle.rcu_barrier.proofs.Rooms.{same_items}
use Rattle.rcu_barrier.proofs.Taken.{taken_kept, taken_markers, taken_view}
use Rattle.rcu_barrier.proofs.lists.Lists.pop_done.Goals as goal

pub overflow_sub-self : goal.overflow_sub-self
overflow_sub-self g c =
    let i = c.self.inside in
    let inside : c.args.cpu < length (items_in i.lists.items) =
    subst (λ v. c.args.cpu < length v.all.lists) (sym c.self.view_is) c.requires in
    taken_markers i.lists.items i.visits i.running i.queued i.most c.args.cpu 1
    c.index_mut.result.now c.pop_done.new.self inside c.index_mut.ensures.value
    c.in_ok-call.ensures.state i.markers c.in_ok-call.passed c.self.invariant.0
    (popped_count c.index_mut.result.now.items c.in_ok-call.call c.in_ok-call.passed
    c.in_ok-call.ensures.answer)

pub invariant_of-self-2 : goal.invariant_of-self-2
invariant_of-self-2 g c =
    let i = c.self.inside in
    let inside : c.args.cpu < length (items_in i.lists.items) =
    subst (λ v. c.args.cpu < length v.all.lists) (sym c.self.view_is) c.requires in
    taken_kept i.lists.items i.visits i.running i.queued i.most c.args.cpu 1 c.index_mut.result.now
    c.pop_done.new.self inside c.index_mut.ensures.value c.in_ok-call.ensures.state i.markers
    c.in_ok-call.passed c.self.invariant.0 c.self.invariant.1
    (popped_count c.index_mut.result.now.items c.in_ok-call.call c.in_ok-call.passed
    c.in_ok-call.ensures.answer)

pub invariant_of-self : goal.invariant_of-self
invariant_of-self g c =
    let i = c.self.inside in
    let same = same_items i.lists.items c.args.cpu c.index_mut.result.now c.pop_done.new.self
    c.index_mut.ensures.value (ap (λ l. l.items) (c.in_err-call.ensures.unchanged refl)) in
    subst (λ l.
    (i.markers ≡ markers_in l)
    × IsSound (record {
      lists = l;
      visited = i.visits;
      running = i.running;
      queued = i.queued;
      most = i.most;
    }))
    (sym same) c.self.invariant

pub returns-in_err-call-clause-state : goal.returns-in_err-call-clause-state
returns-in_err-call-clause-state g c =
    let i = c.self.inside in
    let inside : c.args.cpu < length (items_in i.lists.items) =
    subst (λ v. c.args.cpu < length v.all.lists) (sym c.self.view_is) c.requires in
    rw (← c.self.view_is)
    (taken_view i.lists.items i.visits i.running i.queued i.most c.args.cpu 1 c.index_mut.result.now
    c.pop_done.new.self inside c.index_mut.ensures.value c.in_err-call.ensures.state)

pub returns-clause-state : goal.returns-clause-state
returns-clause-state g c =
    let i = c.self.inside in
    let inside : c.args.cpu < length (items_in i.lists.items) =
    subst (λ v. c.args.cpu < length v.all.lists) (sym c.self.view_is) c.requires in
    rw (← c.self.view_is)
    (taken_view i.lists.items i.visits i.running i.queued i.most c.args.cpu 1 c.index_mut.result.now
    c.pop_done.new.self inside c.index_mut.ensures.value c.in_ok-call.ensures.state)
