use Rattle.rcu_c.proofs.FourCalls.{all_handed, none_waits}
use Rattle.rcu_c.proofs.progress.four_calls_finish_a_list.Goals as goal

pub returns-clause-waiting : goal.returns-clause-waiting
returns-clause-waiting c =
    λ first e driven now calls cpu word later new is inside at quiet once still twice.
    none_waits first e driven now calls cpu word later new is inside at quiet once still twice

pub returns-clause-handed_out : goal.returns-clause-handed_out
returns-clause-handed_out c =
    λ first e driven now calls cpu room word later new is inside at quiet once still twice enough.
    all_handed first e driven now calls cpu word later new is inside at quiet once still twice room
    enough
