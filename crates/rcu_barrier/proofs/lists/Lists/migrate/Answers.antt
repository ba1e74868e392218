use Rattle.std.proofs.Common.{ℕ, ◌≡◌, ◌+◌, ◌<◌, Bool, List, true, false, not, ◌&&◌, [], get_or}
use Rattle.std.proofs.Common.{length, set, refl, ap, sym, subst, ◌∙◌, arith}
use Rattle.std.specs.Prelude.{if◌then◌else◌}
use Rattle.std.proofs.lemmas.List.{length-set, with_items_is}
use mir.Val.{bool_byte}
use Rattle.rcu_cblist.specs.SegList.{Item, after_migrate, as_it_leaves, is_empty}
use Rattle.rcu_barrier.specs.Lists.{AllLists, IsSound, items_in, list_at, list_of, lists_after_move}
use Rattle.rcu_barrier.specs.Lists.{markers_in, owes_visit, unvisited}
use Rattle.rcu_barrier.specs.declared.lists.Lists.TheInside.{Inside}
use Rattle.rcu_barrier.proofs.Kept.{moved_kept, owed_parts}
use Rattle.rcu_barrier.proofs.Markers.{unvisited_set}
use Rattle.rcu_barrier.proofs.Rooms.{long_in}
use Rattle.rcu_barrier.proofs.lists.Lists.migrate.Goals.{then-owed, else-owed}
use Rattle.rcu_barrier.proofs.lists.Lists.migrate.Goals as goal

-- a test as a number
abbrev one_if : Bool → ℕ
one_if put = if put then 1 else 0

byte_is : (put : Bool) → bool_byte put ≡ one_if put
byte_is true = refl
byte_is false = refl

pub invariant_of-self-2 : goal.invariant_of-self-2
invariant_of-self-2 g c =
    let i = c.self.inside in
    let k = c.self.invariant in
    let cpu = c.args.cpu in
    let old : AllLists g.row.T.Denot = record {
      lists = items_in i.lists.items;
      visited = i.visits;
      running = i.running;
      queued = i.queued;
      most = i.most;
    } in
    let inside : cpu < length (items_in i.lists.items) =
    subst (λ v. cpu < length v.all.lists) (sym c.self.view_is) c.requires.1 in
    let owed = c.owes_visit-owed.result in
    let owes : owes_visit old cpu ≡ owed =
    subst (λ v. owes_visit v.all cpu ≡ owed) (sym c.self.view_is) (sym c.owes_visit-owed.ensures) in
    let moved : items_in c.move_to_first.new.lists
    ≡ lists_after_move (items_in i.lists.items) cpu owed =
    c.in_ok-moved.ensures.state
    ∙ ap (λ l. lists_after_move (items_in l) cpu owed) c.as_mut_slice.ensures.value in
    let first =
    after_migrate (list_at (items_in i.lists.items) 0)
    (as_it_leaves (list_at (items_in i.lists.items) cpu) owed) in
    let long =
    sym (long_in c.move_to_first.new.lists)
    ∙ (ap length moved
    ∙ (length-set (set (items_in i.lists.items) 0 first) cpu []
    ∙ (length-set (items_in i.lists.items) 0 first ∙ long_in i.lists.items))) in
    let back =
    ap items_in (with_items_is i.lists c.move_to_first.new.lists (long ∙ sym i.lists.ok.0))
    ∙ moved in
    let marked : c.in_ok-moved.marked
    ≡ (owed && not (is_empty (list_at (items_in i.lists.items) cpu))) =
    ap (λ (answer : ℕ × Bool). answer.1) c.in_ok-moved.ensures.answer ∙
    ap (λ l. owed && not (is_empty (list_at (items_in l) cpu))) c.as_mut_slice.ensures.value in
    let more : i.markers + c.from.result
    ≡ i.markers + one_if (owed && not (is_empty (list_of old cpu))) =
    ap (λ n. i.markers + n) (c.from.ensures ∙ (byte_is c.in_ok-moved.marked ∙ ap one_if marked)) in
    let Sound : Inside g.row.T.Denot → Type 0 = λ s.
    (s.markers + c.from.result ≡ markers_in (items_in s.lists.items))
    × IsSound (record {
      lists = items_in s.lists.items;
      visited = s.visits;
      running = s.running;
      queued = s.queued;
      most = s.most;
    }) in
    let Kept : List Bool → List (List (Item g.row.T.Denot)) → Type 0 = λ flags lists.
    (i.markers + c.from.result ≡ markers_in lists)
    × IsSound (record {
      lists = lists;
      visited = flags;
      running = i.running;
      queued = i.queued;
      most = i.most;
    }) in
    elim c.if-owed.branch [
      | then-owed w ↦
          let sized = k.1.sized in
          let off = (owed_parts i.running (get_or i.visits cpu false) (owes ∙ w.if-owed.true)).1 in
          let fewer = unvisited_set i.visits cpu (omega arith) off in
          let flags = ap unvisited w.insert.ensures in
          let one : one_if owed ≡ 1 = ap one_if w.if-owed.true in
          subst Sound (sym w.self-inside-is)
          (subst (Kept w.insert.new.self) (sym back)
          (moved_kept old i.markers (i.markers + c.from.result) cpu owed w.insert.new.self k.0 k.1
          c.requires.0 inside (ap length w.insert.ensures ∙ length-set i.visits cpu true) more
          (omega arith)))
      | else-owed w ↦
          let none : one_if owed ≡ 0 = ap one_if w.if-owed.false in
          subst Sound (sym w.self-inside-is)
          (subst (Kept i.visits) (sym back)
          (moved_kept old i.markers (i.markers + c.from.result) cpu owed i.visits k.0 k.1
          c.requires.0 inside refl more (omega arith)))
    ]
