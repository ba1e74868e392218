use Rattle.rcu_core.proofs.Finishing.{can_finish}
use Rattle.rcu_core.proofs.Room.{room_needed}
use Rattle.rcu_core.proofs.progress.a_cookie_can_be_done.Goals as goal

pub returns-clause-can : goal.returns-clause-can
returns-clause-can c = can_finish

pub returns-clause-only : goal.returns-clause-only
returns-clause-only c = room_needed
