use Rattle.rcu_cblist.proofs.Lists.{taken_and_left}
use Rattle.rcu_cblist.proofs.SegListLemmas.{markers_untaken}
use Rattle.rcu_cblist.proofs.laws.take_and_rest_are_the_list.Goals as goal

pub returns-clause-callbacks : goal.returns-clause-callbacks
returns-clause-callbacks g c = λ most xs. taken_and_left most xs

pub returns-clause-markers : goal.returns-clause-markers
returns-clause-markers g c = λ most xs. markers_untaken most xs
