use Rattle.std.proofs.Common.{◌+◌}
use Rattle.rcu_map.proofs.Behind.{told_up_to}
use Rattle.rcu_map.proofs.laws.no_key_that_stays_is_passed_over.Goals as goal

pub returns : goal.returns
returns g c = λ plan opened key stays writer seat from done last moments now run next some one width
    up early kept made has walks behind.
    told_up_to g.E.Invariant.holds g.E.Value.decode g.E.Entry.key_of g.met.E.Entry.tells plan.roots
    plan.seed key stays (moments from).section (moments (from + done)).section
    (λ words. c.no_words_of_a_key_that_stays_are_passed_over.ensures plan opened key stays writer
    seat from done last moments now run words some one width up early kept made has walks behind)
    next
