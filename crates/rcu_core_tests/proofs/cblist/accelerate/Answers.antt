use Rattle.std.proofs.Common.{arith, sym, ◌∙◌}
use Rattle.rcu_cblist.specs.SegList.{numbers}
use Rattle.rcu_cblist.proofs.Numbers.{at_most_some}
use Rattle.rcu_core_tests.proofs.cblist.accelerate.Goals as goal

pub accelerate-requires-in-Some : goal.accelerate-requires-in-Some
accelerate-requires-in-Some g c =
    at_most_some c.args.snap c.in-Some.most (numbers c.args.list.now.items)
    (sym c.greatest_waiting.ensures ∙ c.in-Some.is) (omega arith)
