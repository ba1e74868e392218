use Rattle.rcu_c.specs.Holding.{cpu_of}
use Rattle.rcu_c.proofs.progress.a_word_is_the_one_that_the_seat_stored.Goals as goal

pub returns : goal.returns
returns c = λ now i j rcu seat engine here role.
    ((engine.kept.fits j (cpu_of seat).view here).sound role).own_word
