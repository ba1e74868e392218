use Rattle.std.proofs.Common.{sym, ◌∙◌, arith}
use Rattle.rcu_cblist.specs.SegList.{numbers}
use Rattle.rcu_seq.specs.Numbers.{snapshot}
use Rattle.rcu_barrier.specs.Lists.{list_of}
use Rattle.rcu_core_tests.proofs.barrier.tended.Goals as goal

pub tend-requires-in-Some-clause-within : goal.tend-requires-in-Some-clause-within
tend-requires-in-Some-clause-within g c =
    c.greatest_bounds_each.ensures.some (snapshot c.args.number) c.in-Some.most
    (numbers (list_of c.args.lists.now.all c.args.cpu))
    (sym c.greatest_waiting.ensures ∙ c.in-Some.is) (omega arith)
