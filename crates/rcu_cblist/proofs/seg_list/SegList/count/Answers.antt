use Rattle.rcu_cblist.proofs.Taking.{counted_calls}
use Rattle.rcu_cblist.proofs.seg_list.SegList.count.Goals as goal

pub returns : goal.returns
returns g c = rw (← c.self.view_is) (counted_calls c.self.inside.segments)
