use Rattle.rcu_barrier.specs.Lists.{list_of}
use Rattle.rcu_seq.specs.Seq.{tag_of}
use Rattle.rcu_state.specs.GpState.{Grace}
use Rattle.rcu_state.proofs.Changes.{all_of, run_kept}
use Rattle.rcu_state.proofs.Timely.{popped_waited, timely_get}
use Rattle.rcu_state.proofs.gp_state.GpState.pop_done.Goals as goal

pub invariant_of-self : goal.invariant_of-self
invariant_of-self g c =
    let i = c.self.inside in
    let old : Grace g.row.T.Denot = record {
      seq = i.seq;
      needed = i.needed;
      processors = i.hotplug;
      lists = i.lists.all;
    } in
    run_kept old c.args.cpu 1 c.pop_done.new.self.all c.self.invariant
    (all_of c.pop_done.ensures.state)

pub returns-clause-waited : goal.returns-clause-waited
returns-clause-waited g c =
    let i = c.self.inside in
    let n = tag_of i.seq in
    let timely = timely_get n i.lists.all.lists c.args.cpu c.self.invariant.timely in
    rw (← c.self.view_is)
    (popped_waited n (list_of i.lists.all c.args.cpu) c.pop_done.result timely
    c.pop_done.ensures.call)
