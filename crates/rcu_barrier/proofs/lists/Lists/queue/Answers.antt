use Rattle.std.proofs.lemmas.List.Elements.{All-nil}
use Rattle.std.proofs.Common.{◌≡◌, ◌%◌, ◌+◌, ◌<◌, ◌++◌, ◌∷◌, [], length, refl, ap, sym, subst, ◌∙◌}
use Rattle.std.proofs.Common.{arith}
use Rattle.rcu_cblist.specs.SegList.{Of, Unmarked, markers}
use Rattle.rcu_barrier.specs.Tending.{AreFours}
use Rattle.rcu_barrier.specs.Lists.{IsSound, items_in, markers_in}
use Rattle.rcu_barrier.proofs.Fours.{fours_append}
use Rattle.rcu_barrier.proofs.Rooms.{changed_items, other_rooms, relisted_in, rooms_rise}
use Rattle.rcu_barrier.proofs.Rooms.{same_items}
use Rattle.rcu_cblist.proofs.SegListLemmas.{markers_append}
use Rattle.rcu_barrier.proofs.lists.Lists.queue.Goals as goal

pub invariant_of-self : goal.invariant_of-self
invariant_of-self g c =
    let i = c.self.inside in
    let same = same_items i.lists.items c.args.cpu c.index_mut-list.result.now c.queue.new.self
    c.index_mut-list.ensures.value c.in-Err.ensures.unchanged in
    subst (λ l.
    (i.markers ≡ markers_in l)
    × IsSound (record {
      lists = l;
      visited = i.visits;
      running = i.running;
      queued = i.queued;
      most = i.most;
    }))
    (sym same) c.self.invariant

pub returns-in-Err-clause-unchanged : goal.returns-in-Err-clause-unchanged
returns-in-Err-clause-unchanged g c =
    let i = c.self.inside in
    let same = same_items i.lists.items c.args.cpu c.index_mut-list.result.now c.queue.new.self
    c.index_mut-list.ensures.value c.in-Err.ensures.unchanged in
    ap (λ l. record {
      lists = l;
      visited = i.visits;
      running = i.running;
      queued = i.queued;
      most = i.most;
    })
    same
    ∙ ap (λ v. v.all) c.self.view_is

pub returns-clause-state : goal.returns-clause-state
returns-clause-state g c =
    let i = c.self.inside in
    let inside : c.args.cpu < length (items_in i.lists.items) =
    subst (λ v. c.args.cpu < length v.all.lists) (sym c.self.view_is) c.requires in
    let item = Of (record { ord = i.queued + 1; at = c.args.at; value = c.args.value }) Unmarked in
    let longer =
    changed_items (λ xs. xs ++ item ∷ []) i.lists.items c.args.cpu c.index_mut-list.result.now
    c.queue.new.self inside c.index_mut-list.ensures.value c.in-Ok.ensures.state in
    rw (← c.self.view_is)
    (ap (λ l. record {
      lists = l;
      visited = i.visits;
      running = i.running;
      queued = i.queued + 1;
      most = i.most;
    })
    longer)

pub invariant_of-self-2 : goal.invariant_of-self-2
invariant_of-self-2 g c =
    let i = c.self.inside in
    let k = c.self.invariant in
    let old = c.index_mut-list.result.now in
    let inside : c.args.cpu < length (items_in i.lists.items) =
    subst (λ v. c.args.cpu < length v.all.lists) (sym c.self.view_is) c.requires in
    let after = c.in-Ok.ensures.state in
    let same = ap markers after ∙ markers_append old.items _ in
    let most = k.1.counted in
    let few = c.if-self.false in
    relisted_in i.lists.items i.visits i.visits i.running i.queued i.markers i.markers
    (i.queued + 1) i.most c.args.cpu old c.queue.new.self k.0 k.1 inside
    c.index_mut-list.ensures.value refl (omega arith) (omega arith) (omega arith)
    (λ fours.
    subst AreFours (sym after) (fours_append old.items _ fours (All-nil (λ n. n % 4 ≡ 0))))

pub returns-in-Err-clause-room : goal.returns-in-Err-clause-room
returns-in-Err-clause-room g c =
    let i = c.self.inside in
    let inside : c.args.cpu < length (items_in i.lists.items) =
    subst (λ v. c.args.cpu < length v.all.lists) (sym c.self.view_is) c.requires in
    rw (← c.self.view_is) (record {
      own = rooms_rise i.lists.items c.args.cpu c.index_mut-list.result.now c.queue.new.self inside
          c.index_mut-list.ensures.value c.queue.ensures.room;
      others = other_rooms i.lists.items c.args.cpu c.queue.new.self inside;
    })

pub returns-clause-room : goal.returns-clause-room
returns-clause-room g c =
    let i = c.self.inside in
    let inside : c.args.cpu < length (items_in i.lists.items) =
    subst (λ v. c.args.cpu < length v.all.lists) (sym c.self.view_is) c.requires in
    rw (← c.self.view_is) (record {
      own = rooms_rise i.lists.items c.args.cpu c.index_mut-list.result.now c.queue.new.self inside
          c.index_mut-list.ensures.value c.queue.ensures.room;
      others = other_rooms i.lists.items c.args.cpu c.queue.new.self inside;
    })
