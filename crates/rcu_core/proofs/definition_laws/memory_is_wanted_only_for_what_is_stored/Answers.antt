use Rattle.rcu_core.proofs.Wanted.{wanting_event, wants_to_hand_out, wants_to_list, wants_to_mark}
use Rattle.rcu_core.proofs.Wanted.{wants_to_move}
use Rattle.rcu_core.proofs.definition_laws.memory_is_wanted_only_for_what_is_stored.Goals as goal

pub returns-clause-events : goal.returns-clause-events
returns-clause-events c = wanting_event

pub returns-clause-listed : goal.returns-clause-listed
returns-clause-listed c = wants_to_list

pub returns-clause-moved : goal.returns-clause-moved
returns-clause-moved c = wants_to_move

pub returns-clause-handed_out : goal.returns-clause-handed_out
returns-clause-handed_out c = wants_to_hand_out

pub returns-clause-marked : goal.returns-clause-marked
returns-clause-marked c = wants_to_mark
