use Rattle.std.proofs.Common.{◌≡◌, ◌-◌, length, length-drop, length-take, take, drop, refl, ◌∙◌}
use Rattle.std.proofs.Common.{arith}
use Rattle.rcu_cblist.proofs.Cuts.{length_between}
use Rattle.rcu_cblist.proofs.Views.{lengths_joined}
use Rattle.rcu_cblist.proofs.segments.Segments.lengths.Goals as goal

pub returns : goal.returns
returns g c =
    let s = c.args.self.now in
    let k = c.args.self.now.cut in
    let xs = s.items.items in
    let within = k.done_tail.within in
    let first : length (take s.done.items xs) ≡ s.done.items =
    omega (arith, length-take s.done.items xs) in
    let second = length_between s.done.items s.wait.items xs k.wait_tail.within in
    let third = length_between s.wait.items s.ready.items xs k.ready_tail.within in
    let last : length (drop s.ready.items xs) ≡ c.len.result - s.ready.items =
    (let ok = s.items.ok in
    let len = c.len.ensures in let rest = length-drop s.ready.items xs in omega arith) in
    (rw (first, second, third, last) refl)
    ∙ lengths_joined s.wait_number s.ready_number _ _ _ _ k.segments
