use Rattle.rcu_live.proofs.Finishing.{five_hand_out, five_run}
use Rattle.rcu_live.proofs.progress.five_calls_hand_out_a_callback.Goals as goal

pub returns-clause-run : goal.returns-clause-run
returns-clause-run g c = five_run

pub returns-clause-handed_out : goal.returns-clause-handed_out
returns-clause-handed_out g c = five_hand_out
