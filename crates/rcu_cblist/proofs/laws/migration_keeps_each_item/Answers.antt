use Rattle.rcu_cblist.proofs.Lists.{tested_moved}
use Rattle.rcu_cblist.proofs.SegListLemmas.{markers_moved}
use Rattle.rcu_cblist.proofs.laws.migration_keeps_each_item.Goals as goal

pub returns-clause-callbacks : goal.returns-clause-callbacks
returns-clause-callbacks g c = λ test xs ys. tested_moved test xs ys

pub returns-clause-markers : goal.returns-clause-markers
returns-clause-markers g c = λ xs ys. markers_moved xs ys
