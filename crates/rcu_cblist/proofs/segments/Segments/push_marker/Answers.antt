use Rattle.std.proofs.Common.{◌≡◌, ◌∷◌, ◌++◌, [], length, ◌∙◌, arith}
use Rattle.rcu_cblist.specs.declared.items.Entry.TheVariants as entry
use Rattle.rcu_cblist.specs.Cuts.{AreTails}
use Rattle.rcu_cblist.proofs.Cuts.{same_calls, same_items}
use Rattle.rcu_cblist.proofs.Marking.{Marked, entrained, push_marked, some_kept}
use Rattle.rcu_cblist.proofs.Refusals.{list_is}
use Rattle.rcu_cblist.proofs.segments.Segments.push_marker.Goals as goal

-- the places after the marker was put
ends : (g : _) (c : goal.After-pass_marker-3 g)
    → let s = c.args.self.now in
    let ys = s.items.items ++ entry.Marker ∷ [] in
    let done = c.pass_marker.new.self in
    let wait = c.pass_marker-2.new.self in
    let ready = c.pass_marker-3.new.self in
    AreTails ys done wait ready s.calls s.wait_number s.ready_number
    × Marked s.wait_number s.ready_number s.items.items ys s.done.items s.wait.items s.ready.items
    done.items wait.items ready.items
ends g c =
    let s = c.args.self.now in
    let k = c.args.self.now.cut in
    let xs = s.items.items in
    let some = some_kept s.wait_number s.ready_number s.done.items s.wait.items s.ready.items xs
    k.wait_behind k.ready_behind c.requires.some in
    let end : c.len-end.result ≡ length xs =
    (let ok = s.items.ok in let len = c.len-end.ensures in omega arith) in
    push_marked s.wait_number s.ready_number s.calls c.len-end.result xs s.done s.wait s.ready
    c.pass_marker.new.self c.pass_marker-2.new.self c.pass_marker-3.new.self k end (omega arith)
    (same_items _ _ c.pass_marker.ensures) (same_calls _ _ c.pass_marker.ensures)
    (same_items _ _ c.pass_marker-2.ensures)
    (same_calls _ _ c.pass_marker-2.ensures) (same_items _ _ c.pass_marker-3.ensures)
    (same_calls _ _ c.pass_marker-3.ensures)

pub invariant_of-self : goal.invariant_of-self
invariant_of-self g c = record { cut = rw c.push_back_reserved.ensures.items (ends g c).0 }

pub returns : goal.returns
returns g c =
    list_is _ _ _ _
    (rw c.push_back_reserved.ensures.items ((ends g c.before).1.seen ∙ entrained _ c.requires.some))
    c.push_back_reserved.ensures.capacity
