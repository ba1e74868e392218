use Rattle.std.proofs.Common.{ap}
use Rattle.rcu_c.specs.Answers.{left_of}
use Rattle.rcu_c.proofs.progress.handed_out_callbacks_finish_a_barrier.Goals as goal

pub returns : goal.returns
returns c = λ first later visited new run seen none out.
    ap left_of
    (c.handed_out_callbacks_finish_a_barrier.ensures first later visited new run seen none out)
