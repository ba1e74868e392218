use Rattle.std.proofs.Common.{◌≡◌, ◌+◌, ◌<◌, true, false, length, get_or, refl, ap, sym, subst, ◌∙◌}
use Rattle.std.proofs.Common.{arith}
use Rattle.std.proofs.lemmas.List.{length-set}
use Rattle.rcu_cblist.specs.SegList.{after_entrain, is_empty, markers}
use Rattle.rcu_barrier.specs.Tending.{AreFours}
use Rattle.rcu_barrier.specs.Lists.{IsSound, items_in, markers_in, unvisited}
use Rattle.rcu_barrier.proofs.Fours.{fours_leaving}
use Rattle.rcu_barrier.proofs.Rooms.{changed_items, other_rooms, relisted_in, rooms_rise}
use Rattle.rcu_barrier.proofs.Rooms.{same_items}
use Rattle.rcu_barrier.proofs.Markers.{unvisited_set}
use Rattle.rcu_cblist.proofs.SegListLemmas.{entrained_empty, marked_some, markers_entrained}
use Rattle.rcu_cblist.proofs.SegListLemmas.{unmarked_none}
use Rattle.std.proofs.lemmas.Result.{err_from_is_err_and}
use Rattle.rcu_barrier.proofs.lists.Lists.visit.Goals as goal

pub invariant_of-self-then-not-marked : goal.invariant_of-self-then-not-marked
invariant_of-self-then-not-marked g c =
    let i = c.self.inside in
    let k = c.self.invariant in
    let old = c.index_mut-list.result.now in
    let inside : c.args.cpu < length (items_in i.lists.items) =
    subst (λ v. c.args.cpu < length v.all.lists) (sym c.self.view_is) c.requires in
    let sized = k.1.sized in
    let off : get_or i.visits c.args.cpu false ≡ false =
    sym c.contains.ensures ∙ c.if-contains.false in
    let fewer = unvisited_set i.visits c.args.cpu (omega arith) off in
    let after = c.in_ok-marked.ensures in
    let none : is_empty old.items ≡ true =
    unmarked_none old.items c.in_ok-marked.marked after.answer c.if-not-marked.true in
    let same = ap markers (after.state ∙ entrained_empty old.items none) in
    let flags = ap unvisited c.insert.ensures in
    relisted_in i.lists.items i.visits c.insert.new.self i.running i.queued i.markers i.markers
    i.queued i.most c.args.cpu old c.entrain.new.self k.0 k.1 inside c.index_mut-list.ensures.value
    (ap length c.insert.ensures ∙ length-set i.visits c.args.cpu true) (omega arith) (omega arith)
    k.1.counted (λ fours. subst AreFours (sym after.state) (fours_leaving true old.items fours))

pub invariant_of-self-2 : goal.invariant_of-self-2
invariant_of-self-2 g c =
    let i = c.self.inside in
    let k = c.self.invariant in
    let old = c.index_mut-list.result.now in
    let inside : c.args.cpu < length (items_in i.lists.items) =
    subst (λ v. c.args.cpu < length v.all.lists) (sym c.self.view_is) c.requires in
    let sized = k.1.sized in
    let off : get_or i.visits c.args.cpu false ≡ false =
    sym c.contains.ensures ∙ c.if-contains.false in
    let fewer = unvisited_set i.visits c.args.cpu (omega arith) off in
    let after = c.in_ok-marked.ensures in
    let some : is_empty old.items ≡ false =
    marked_some old.items c.in_ok-marked.marked after.answer c.if-not-marked.false in
    let more = ap markers after.state ∙ markers_entrained old.items some in
    let flags = ap unvisited c.insert.ensures in
    relisted_in i.lists.items i.visits c.insert.new.self i.running i.queued i.markers
    (i.markers + 1) i.queued i.most c.args.cpu old c.entrain.new.self k.0 k.1 inside
    c.index_mut-list.ensures.value
    (ap length c.insert.ensures ∙ length-set i.visits c.args.cpu true) (omega arith) (omega arith)
    k.1.counted (λ fours. subst AreFours (sym after.state) (fours_leaving true old.items fours))

pub invariant_of-self : goal.invariant_of-self
invariant_of-self g c =
    let i = c.self.inside in
    let same = same_items i.lists.items c.args.cpu c.index_mut-list.result.now c.entrain.new.self
    c.index_mut-list.ensures.value c.in_err-marked.ensures.unchanged in
    subst (λ l.
    (i.markers ≡ markers_in l)
    × IsSound (record {
      lists = l;
      visited = i.visits;
      running = i.running;
      queued = i.queued;
      most = i.most;
    }))
    (sym same) c.self.invariant

pub returns-in_err-marked-clause-unchanged : goal.returns-in_err-marked-clause-unchanged
returns-in_err-marked-clause-unchanged g c =
    let i = c.self.inside in
    let same = same_items i.lists.items c.args.cpu c.index_mut-list.result.now c.entrain.new.self
    c.index_mut-list.ensures.value c.in_err-marked.ensures.unchanged in
    let p = err_from_is_err_and c.from_residual.result c.from_residual.ensures.1 in
    rw (p.1)
    (ap (λ l. record {
      lists = l;
      visited = i.visits;
      running = i.running;
      queued = i.queued;
      most = i.most;
    })
    same
    ∙ ap (λ v. v.all) c.self.view_is)

pub returns-then-not-marked-clause-state : goal.returns-then-not-marked-clause-state
returns-then-not-marked-clause-state g c =
    let i = c.self.inside in
    let inside : c.args.cpu < length (items_in i.lists.items) =
    subst (λ v. c.args.cpu < length v.all.lists) (sym c.self.view_is) c.requires in
    let put = changed_items after_entrain i.lists.items c.args.cpu c.index_mut-list.result.now
    c.entrain.new.self inside c.index_mut-list.ensures.value c.in_ok-marked.ensures.state in
    let off : get_or i.visits c.args.cpu false ≡ false =
    sym c.contains.ensures ∙ c.if-contains.false in
    let flags = c.insert.ensures in
    rw (← c.self.view_is, off, put, flags) refl

pub returns-clause-state : goal.returns-clause-state
returns-clause-state g c =
    let i = c.self.inside in
    let inside : c.args.cpu < length (items_in i.lists.items) =
    subst (λ v. c.args.cpu < length v.all.lists) (sym c.self.view_is) c.requires in
    let put = changed_items after_entrain i.lists.items c.args.cpu c.index_mut-list.result.now
    c.entrain.new.self inside c.index_mut-list.ensures.value c.in_ok-marked.ensures.state in
    let off : get_or i.visits c.args.cpu false ≡ false =
    sym c.contains.ensures ∙ c.if-contains.false in
    let flags = c.insert.ensures in
    rw (← c.self.view_is, off, put, flags) refl

pub returns-in_err-marked-clause-room : goal.returns-in_err-marked-clause-room
returns-in_err-marked-clause-room g c =
    let i = c.self.inside in
    let inside : c.args.cpu < length (items_in i.lists.items) =
    subst (λ v. c.args.cpu < length v.all.lists) (sym c.self.view_is) c.requires in
    rw (← c.self.view_is)
    (record {
      own = rooms_rise i.lists.items c.args.cpu c.index_mut-list.result.now c.entrain.new.self
          inside c.index_mut-list.ensures.value c.entrain.ensures.room;
      others = other_rooms i.lists.items c.args.cpu c.entrain.new.self inside;
    })

pub returns-then-not-marked-clause-room : goal.returns-then-not-marked-clause-room
returns-then-not-marked-clause-room g c =
    let i = c.self.inside in
    let inside : c.args.cpu < length (items_in i.lists.items) =
    subst (λ v. c.args.cpu < length v.all.lists) (sym c.self.view_is) c.requires in
    rw (← c.self.view_is)
    (record {
      own = rooms_rise i.lists.items c.args.cpu c.index_mut-list.result.now c.entrain.new.self
          inside c.index_mut-list.ensures.value c.entrain.ensures.room;
      others = other_rooms i.lists.items c.args.cpu c.entrain.new.self inside;
    })

pub returns-clause-room : goal.returns-clause-room
returns-clause-room g c =
    let i = c.self.inside in
    let inside : c.args.cpu < length (items_in i.lists.items) =
    subst (λ v. c.args.cpu < length v.all.lists) (sym c.self.view_is) c.requires in
    rw (← c.self.view_is)
    (record {
      own = rooms_rise i.lists.items c.args.cpu c.index_mut-list.result.now c.entrain.new.self
          inside c.index_mut-list.ensures.value c.entrain.ensures.room;
      others = other_rooms i.lists.items c.args.cpu c.entrain.new.self inside;
    })
