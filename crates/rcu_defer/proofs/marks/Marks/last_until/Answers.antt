use Rattle.std.proofs.Common.{◌≡◌, ◌++◌, ap, ◌∙◌, replicate, sym, arith}
use Rattle.rcu_defer.specs.Marks.{last_number}
use Rattle.rcu_defer.proofs.Shown.{last_of_one, last_of_two}
use Rattle.rcu_defer.proofs.marks.Marks.last_until.Goals as goal

pub returns-then-self-gt0-clause-last : goal.returns-then-self-gt0-clause-last
returns-then-self-gt0-clause-last c =
    let m = c.self.inside in
    rw (← c.self.view_is)
    (sym (last_of_two m.first.until m.second.until m.first.count m.second.count (omega arith)))

pub returns-then-self-gt0-2-clause-last : goal.returns-then-self-gt0-2-clause-last
returns-then-self-gt0-2-clause-last c =
    let m = c.self.inside in
    let none : m.second.count ≡ 0 = omega arith in
    rw (← c.self.view_is)
    (sym (ap
    (λ b. last_number (replicate m.first.count m.first.until ++ replicate b m.second.until)) none
    ∙ last_of_one m.first.until m.second.until m.first.count (omega arith)))
