use Rattle.rcu_barrier.proofs.Kept.{kept_first}
use Rattle.rcu_barrier.specs.Lists.{items_in}
use Rattle.rcu_barrier.proofs.lists.Lists.with_most.Goals as goal

pub invariant_of-result : goal.invariant_of-result
invariant_of-result g c =
    kept_first _ c.args.cpus c.args.most (items_in c.in_ok-lists.lists.items) c.in_ok-visits.visits
    c.requires.cpus.0 c.requires.cpus.1 c.requires.most.0 c.requires.most.1
    c.in_ok-lists.ensures.state c.in_ok-visits.ensures.state
