use Rattle.std.proofs.Common.{take, drop, arith}
use Rattle.rcu_cblist.specs.Cuts.{between}
use Rattle.rcu_cblist.proofs.Cuts.{length_between}
use Rattle.rcu_cblist.proofs.Views.{greatest_none, greatest_ready, greatest_wait}
use Rattle.rcu_cblist.proofs.segments.Segments.greatest_waiting.Goals as goal

pub returns-then-self : goal.returns-then-self
returns-then-self g c =
    let s = c.args.self.now in
    let k = c.args.self.now.cut in
    let long = length_between s.wait.items s.ready.items s.items.items k.ready_tail.within in
    let some = c.if-self.true in
    greatest_ready s.wait_number s.ready_number _ _ _ _ k.segments (omega arith)

pub returns-then-self-2 : goal.returns-then-self-2
returns-then-self-2 g c =
    let s = c.args.self.now in
    let k = c.args.self.now.cut in
    let first = length_between s.done.items s.wait.items s.items.items k.wait_tail.within in
    let long = length_between s.wait.items s.ready.items s.items.items k.ready_tail.within in
    let none = c.if-self.false in
    let some = c.if-self-2.true in
    greatest_wait s.wait_number s.ready_number _ _ _ _ k.segments (omega arith) (omega arith)

pub returns-else-self-2 : goal.returns-else-self-2
returns-else-self-2 g c =
    let s = c.args.self.now in
    let k = c.args.self.now.cut in
    let first = length_between s.done.items s.wait.items s.items.items k.wait_tail.within in
    let long = length_between s.wait.items s.ready.items s.items.items k.ready_tail.within in
    let none = c.if-self.false in
    let none_too = c.if-self-2.false in
    let xs = s.items.items in
    greatest_none s.wait_number s.ready_number (take s.done.items xs)
    (between s.done.items s.wait.items xs) (between s.wait.items s.ready.items xs)
    (drop s.ready.items xs) (omega arith) (omega arith)
