use Rattle.rcu_map.proofs.SmallReads.{after_3, after_5, at_end, nexts, not_at_end}
use Rattle.rcu_map.proofs.SmallReads.{not_ended, not_passed}
use Rattle.rcu_map.proofs.SmallReads.{over_all}
use Rattle.rcu_map.proofs.definition_laws.a_section_lists_entries.Goals as goal

pub returns-clause-lists : goal.returns-clause-lists
returns-clause-lists c = over_all

pub returns-clause-nexts : goal.returns-clause-nexts
returns-clause-nexts c = nexts

pub returns-clause-ended : goal.returns-clause-ended
returns-clause-ended c = at_end

pub returns-clause-next_after : goal.returns-clause-next_after
returns-clause-next_after c = after_3

pub returns-clause-in_next_bucket : goal.returns-clause-in_next_bucket
returns-clause-in_next_bucket c = after_5

pub returns-clause-not_at_end : goal.returns-clause-not_at_end
returns-clause-not_at_end c = not_at_end

pub returns-clause-not_passed : goal.returns-clause-not_passed
returns-clause-not_passed c = not_passed

pub returns-clause-not_ended : goal.returns-clause-not_ended
returns-clause-not_ended c = not_ended
