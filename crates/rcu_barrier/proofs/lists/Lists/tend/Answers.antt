use Rattle.std.proofs.Common.{◌≡◌, ◌<◌, [], length, set, get_or, refl, ap, sym, subst, ◌∙◌, arith}
use Rattle.rcu_cblist.specs.SegList.{IsAtMost, after_accelerate, after_advance, behind, callbacks}
use Rattle.rcu_cblist.specs.SegList.{front, markers}
use Rattle.rcu_barrier.specs.Tending.{AreFours, after_tend}
use Rattle.rcu_seq.specs.Numbers.{snapshot}
use Rattle.rcu_barrier.proofs.Fours.{fours_get, fours_tended, most_advanced, tend_is}
use Rattle.rcu_barrier.proofs.Rooms.{both_same, read_items, relisted_in, same_rooms, set_items}
use Rattle.rcu_barrier.specs.Lists.{items_in}
use Rattle.rcu_cblist.proofs.SegListLemmas.{markers_remarked}
use Rattle.rcu_barrier.proofs.lists.Lists.tend.Goals as goal

pub accelerate-requires : goal.accelerate-requires
accelerate-requires g c =
    let i = c.self.inside in
    let number = c.args.number in
    let old = c.index_mut-list.result.now in
    let inside : c.args.cpu < length (items_in i.lists.items) =
    subst (λ v. c.args.cpu < length v.all.lists) (sym c.self.view_is) c.requires.cpu in
    let within : IsAtMost (snapshot number) (get_or (items_in i.lists.items) c.args.cpu []) =
    subst (λ v. IsAtMost (snapshot number) (get_or v.all.lists c.args.cpu [])) (sym c.self.view_is)
    c.requires.within in
    let snap = c.snapshot.ensures in
    let advanced : c.advance.new.self.items ≡ after_advance old.items number =
    ap (λ l. l.items) c.advance.ensures in
    let is = read_items i.lists.items c.args.cpu old inside c.index_mut-list.ensures.value in
    rw (snap, advanced)
    (most_advanced number (snapshot number) old.items
    (subst (IsAtMost (snapshot number)) (sym is) within))

pub invariant_of-self : goal.invariant_of-self
invariant_of-self g c =
    let i = c.self.inside in
    let k = c.self.invariant in
    let number = c.args.number in
    let old = c.index_mut-list.result.now in
    let inside : c.args.cpu < length (items_in i.lists.items) =
    subst (λ v. c.args.cpu < length v.all.lists) (sym c.self.view_is) c.requires.cpu in
    let is = read_items i.lists.items c.args.cpu old inside c.index_mut-list.ensures.value in
    let fours : AreFours old.items =
    subst AreFours (sym is) (fours_get (items_in i.lists.items) c.args.cpu k.1.fours) in
    let snap = c.snapshot.ensures in
    let accelerated : c.accelerate.new.self.items
    ≡ after_accelerate c.advance.new.self.items c.snapshot.result =
    ap (λ l. l.items) c.accelerate.ensures in
    let advanced : c.advance.new.self.items ≡ after_advance old.items number =
    ap (λ l. l.items) c.advance.ensures in
    let after : c.accelerate.new.self.items ≡ after_tend old.items number =
    accelerated ∙ (rw (snap, advanced) (tend_is number old.items c.requires.number.0 fours)) in
    let same = ap markers after ∙ markers_remarked _ old.items in
    relisted_in i.lists.items i.visits i.visits i.running i.queued i.markers i.markers i.queued
    i.most c.args.cpu old c.accelerate.new.self k.0 k.1 inside c.index_mut-list.ensures.value refl
    (omega arith) (omega arith) k.1.counted
    (λ _. subst AreFours (sym after) (fours_tended number old.items fours))

pub returns-clause-state : goal.returns-clause-state
returns-clause-state g c =
    let i = c.self.inside in
    let k = c.self.invariant in
    let number = c.args.number in
    let old = c.index_mut-list.result.now in
    let inside : c.args.cpu < length (items_in i.lists.items) =
    subst (λ v. c.args.cpu < length v.all.lists) (sym c.self.view_is) c.requires.cpu in
    let is = read_items i.lists.items c.args.cpu old inside c.index_mut-list.ensures.value in
    let fours : AreFours old.items =
    subst AreFours (sym is) (fours_get (items_in i.lists.items) c.args.cpu k.1.fours) in
    let snap = c.snapshot.ensures in
    let accelerated : c.accelerate.new.self.items
    ≡ after_accelerate c.advance.new.self.items c.snapshot.result =
    ap (λ l. l.items) c.accelerate.ensures in
    let advanced : c.advance.new.self.items ≡ after_advance old.items number =
    ap (λ l. l.items) c.advance.ensures in
    let after : c.accelerate.new.self.items
    ≡ after_tend (get_or (items_in i.lists.items) c.args.cpu []) number =
    accelerated
    ∙ (rw (snap, advanced) (tend_is number old.items c.requires.number.0 fours)
    ∙ ap (λ l. after_tend l number) is) in
    let rooms = same_rooms i.lists.items c.args.cpu old c.accelerate.new.self
    c.index_mut-list.ensures.value
    (ap (λ l. l.room) c.accelerate.ensures ∙ ap (λ l. l.room) c.advance.ensures) in
    rw (← c.self.view_is)
    (both_same _ _ _ _
    (ap (λ l. record {
      lists = l;
      visited = i.visits;
      running = i.running;
      queued = i.queued;
      most = i.most;
    })
    (set_items i.lists.items c.args.cpu c.accelerate.new.self
    ∙ ap (λ l. set (items_in i.lists.items) c.args.cpu l) after))
    rooms)

pub returns-clause-answer : goal.returns-clause-answer
returns-clause-answer g c =
    let i = c.self.inside in
    let k = c.self.invariant in
    let number = c.args.number in
    let old = c.index_mut-list.result.now in
    let inside : c.args.cpu < length (items_in i.lists.items) =
    subst (λ v. c.args.cpu < length v.all.lists) (sym c.self.view_is) c.requires.cpu in
    let is = read_items i.lists.items c.args.cpu old inside c.index_mut-list.ensures.value in
    let fours : AreFours old.items =
    subst AreFours (sym is) (fours_get (items_in i.lists.items) c.args.cpu k.1.fours) in
    let snap = c.snapshot.ensures in
    let accelerated : c.accelerate.new.self.items
    ≡ after_accelerate c.advance.new.self.items c.snapshot.result =
    ap (λ l. l.items) c.accelerate.ensures in
    let advanced : c.advance.new.self.items ≡ after_advance old.items number =
    ap (λ l. l.items) c.advance.ensures in
    let after : c.accelerate.new.self.items
    ≡ after_tend (get_or (items_in i.lists.items) c.args.cpu []) number =
    accelerated
    ∙ (rw (snap, advanced) (tend_is number old.items c.requires.number.0 fours)
    ∙ ap (λ l. after_tend l number) is) in
    rw (
      ← c.self.view_is,
      c.done_count.ensures.count ∙ ap (λ l. length (callbacks (front l))) after,
      c.waiting_count.ensures ∙ ap (λ l. length (callbacks (behind l))) after,
    ) refl
