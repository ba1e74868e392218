use Rattle.std.proofs.Common.{◌≡◌, length}
use Rattle.rcu_graph.specs.Opening.{AreFirst}
use Rattle.rcu_graph.proofs.first_words.first_words.Given as goal

abbrev pub invariant-loop-root : goal.invariant-loop-root
invariant-loop-root g l =
    (length l.behind.items ≡ length l.initial.behind.items)
    × AreFirst (g.F.Shape.first l.plan) l.root l.plan.roots l.plan.links l.plan.words l.behind.items
