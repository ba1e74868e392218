use Rattle.rcu_command.proofs.CommandLemmas.{met_as, no_fault, order_there, order_within}
use Rattle.rcu_command.proofs.command.read_command.Goals as goal

pub unwrap-requires : goal.unwrap-requires
unwrap-requires c =
    order_there _ _ c.order_of.result
    (met_as _ _ c.in_ok-matches.matches c.in_ok-rcu_command.ensures c.in_ok-matches.ensures.matches)
    (no_fault _ _ c.in_ok-rcu_command.ensures c.in_ok-matches.ensures.kinds) c.order_of.ensures

pub returns-clause-limits : goal.returns-clause-limits
returns-clause-limits c =
    order_within _ _ c.order_of.result c.unwrap.result
    (met_as _ _ c.in_ok-matches.matches c.in_ok-rcu_command.ensures c.in_ok-matches.ensures.matches)
    (no_fault _ _ c.in_ok-rcu_command.ensures c.in_ok-matches.ensures.kinds) c.order_of.ensures
    c.unwrap.ensures

pub returns-clause-fails : goal.returns-clause-fails
returns-clause-fails c = no_fault _ _ c.in_ok-rcu_command.ensures c.in_ok-matches.ensures.kinds
