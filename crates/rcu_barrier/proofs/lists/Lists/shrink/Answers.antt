use Rattle.std.proofs.Common.{◌≡◌, ◌<◌, length, ap, sym, subst, ◌∙◌}
use Rattle.rcu_barrier.specs.Lists.{IsSound, items_in, markers_in}
use Rattle.rcu_barrier.proofs.Rooms.{other_rooms, read_items, room_now, rooms_fall, same_items}
use Rattle.rcu_barrier.proofs.lists.Lists.shrink.Goals as goal

pub invariant_of-self : goal.invariant_of-self
invariant_of-self g c =
    let i = c.self.inside in
    let same = same_items i.lists.items c.args.cpu c.index_mut-list.result.now c.shrink.new.self
    c.index_mut-list.ensures.value c.shrink.ensures.state in
    subst (λ l.
    (i.markers ≡ markers_in l)
    × IsSound (record {
      lists = l;
      visited = i.visits;
      running = i.running;
      queued = i.queued;
      most = i.most;
    }))
    (sym same) c.self.invariant

pub returns-clause-state : goal.returns-clause-state
returns-clause-state g c =
    let i = c.self.inside in
    let same = same_items i.lists.items c.args.cpu c.index_mut-list.result.now c.shrink.new.self
    c.index_mut-list.ensures.value c.shrink.ensures.state in
    ap (λ l. record {
      lists = l;
      visited = i.visits;
      running = i.running;
      queued = i.queued;
      most = i.most;
    })
    same
    ∙ ap (λ v. v.all) c.self.view_is

pub returns-clause-room : goal.returns-clause-room
returns-clause-room g c =
    let i = c.self.inside in
    let inside : c.args.cpu < length (items_in i.lists.items) =
    subst (λ v. c.args.cpu < length v.all.lists) (sym c.self.view_is) c.requires in
    let is = read_items i.lists.items c.args.cpu c.index_mut-list.result.now inside
    c.index_mut-list.ensures.value in
    rw (← c.self.view_is)
    (record {
      own = rooms_fall i.lists.items c.args.cpu c.index_mut-list.result.now c.shrink.new.self inside
          c.index_mut-list.ensures.value c.shrink.ensures.room;
      empty = λ none.
          room_now i.lists.items c.args.cpu c.shrink.new.self inside
          ∙ c.shrink.ensures.empty (is ∙ none);
      others = other_rooms i.lists.items c.args.cpu c.shrink.new.self inside;
    })
