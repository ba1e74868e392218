use Rattle.std.proofs.Common.{sym, ◌∙◌}
use Rattle.rcu_defer.proofs.Waits.{tended_counted}
use Rattle.rcu_defer.proofs.defer_list.DeferList.tend.Goals as goal

pub invariant_of-self : goal.invariant_of-self
invariant_of-self g c =
    rw c.tend.ensures.state
    (c.self.invariant ∙ sym (tended_counted c.self.inside.marks c.args.number))
