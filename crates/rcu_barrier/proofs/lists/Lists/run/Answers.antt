use Rattle.std.proofs.Common.{◌≡◌, ◌<◌, length, ap, sym, subst, ◌∙◌}
use Rattle.rcu_barrier.specs.Lists.{IsSound, items_in, markers_in}
use Rattle.rcu_barrier.proofs.Rooms.{both_same, same_items, same_rooms}
use Rattle.rcu_barrier.proofs.Taken.{taken_kept, taken_markers, taken_view}
use Rattle.std.proofs.lemmas.Result.{err_from_is_err_and}
use Rattle.rcu_barrier.proofs.lists.Lists.run.Goals as goal

pub overflow_sub-self : goal.overflow_sub-self
overflow_sub-self g c =
    let i = c.self.inside in
    let inside : c.args.cpu < length (items_in i.lists.items) =
    subst (λ v. c.args.cpu < length v.all.lists) (sym c.self.view_is) c.requires in
    taken_markers i.lists.items i.visits i.running i.queued i.most c.args.cpu c.args.max
    c.index_mut-list.result.now c.take_done.new.self inside c.index_mut-list.ensures.value
    c.in_ok-calls.ensures.state i.markers c.in_ok-calls.field-0.markers c.self.invariant.0
    c.in_ok-calls.ensures.markers

pub invariant_of-self-2 : goal.invariant_of-self-2
invariant_of-self-2 g c =
    let i = c.self.inside in
    let inside : c.args.cpu < length (items_in i.lists.items) =
    subst (λ v. c.args.cpu < length v.all.lists) (sym c.self.view_is) c.requires in
    taken_kept i.lists.items i.visits i.running i.queued i.most c.args.cpu c.args.max
    c.index_mut-list.result.now c.take_done.new.self inside c.index_mut-list.ensures.value
    c.in_ok-calls.ensures.state i.markers c.in_ok-calls.field-0.markers c.self.invariant.0
    c.self.invariant.1 c.in_ok-calls.ensures.markers

pub invariant_of-self : goal.invariant_of-self
invariant_of-self g c =
    let i = c.self.inside in
    let same = same_items i.lists.items c.args.cpu c.index_mut-list.result.now c.take_done.new.self
    c.index_mut-list.ensures.value (ap (λ l. l.items) c.in_err-calls.ensures.unchanged) in
    subst (λ l.
    (i.markers ≡ markers_in l)
    × IsSound (record {
      lists = l;
      visited = i.visits;
      running = i.running;
      queued = i.queued;
      most = i.most;
    }))
    (sym same) c.self.invariant

pub returns-in_err-calls-clause-unchanged : goal.returns-in_err-calls-clause-unchanged
returns-in_err-calls-clause-unchanged g c =
    let i = c.self.inside in
    let same = same_items i.lists.items c.args.cpu c.index_mut-list.result.now c.take_done.new.self
    c.index_mut-list.ensures.value (ap (λ l. l.items) c.in_err-calls.ensures.unchanged) in
    let rooms = same_rooms i.lists.items c.args.cpu c.index_mut-list.result.now c.take_done.new.self
    c.index_mut-list.ensures.value (ap (λ l. l.room) c.in_err-calls.ensures.unchanged) in
    let p = err_from_is_err_and c.from_residual.result c.from_residual.ensures.1 in
    rw (p.1)
    (both_same _ _ _ _
    (ap (λ l. record {
      lists = l;
      visited = i.visits;
      running = i.running;
      queued = i.queued;
      most = i.most;
    })
    same)
    rooms
    ∙ c.self.view_is)

pub returns-clause-state : goal.returns-clause-state
returns-clause-state g c =
    let i = c.self.inside in
    let inside : c.args.cpu < length (items_in i.lists.items) =
    subst (λ v. c.args.cpu < length v.all.lists) (sym c.self.view_is) c.requires in
    rw (← c.self.view_is)
    (taken_view i.lists.items i.visits i.running i.queued i.most c.args.cpu c.args.max
    c.index_mut-list.result.now c.take_done.new.self inside c.index_mut-list.ensures.value
    c.in_ok-calls.ensures.state)
