use Rattle.rcu_c.proofs.BarrierEnds.{fourth_is_done}
use Rattle.rcu_c.proofs.progress.the_fourth_wait_for_a_barrier_writes_0.Goals as goal

pub returns : goal.returns
returns c = λ first e second third rest fourth calls w1 w2 w3 w4 new is at q1 x1 q2 x2 x3 h.
    fourth_is_done first e second third rest fourth calls w1 w2 w3 w4 new is at q1 x1 q2 x2 x3 h
