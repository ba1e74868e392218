use Rattle.std.proofs.Common.{◌≡◌, ◌-◌, suc, arith}
use Rattle.rcu_graph.proofs.Walking.{followed_to}
use Rattle.rcu_graph.proofs.graph.Graph.follow.Goals as goal

pub returns-then-word-eq0-clause-came : goal.returns-then-word-eq0-clause-came
returns-then-word-eq0-clause-came g c = λ words on.
    let is : c.follow_word-word.result ≡ 0 = omega (arith, c.if-word-eq0.true) in
    followed_to _ _ _ _ _ _ _ _ _ _ is (c.follow_word-word.ensures.came words on)

pub returns-clause-came : goal.returns-clause-came
returns-clause-came g c = λ words on.
    let is : c.follow_word-word.result ≡ suc (c.follow_word-word.result - 1) =
    omega (arith, c.if-word-eq0.false) in
    followed_to _ _ _ _ _ _ _ _ _ _ is (c.follow_word-word.ensures.came words on)

pub returns-clause-on : goal.returns-clause-on
returns-clause-on g c =
    let is : c.follow_word-word.result ≡ suc (c.follow_word-word.result - 1) =
    omega (arith, c.if-word-eq0.false) in
    c.follow_word-word.ensures.on (c.follow_word-word.result - 1) is
