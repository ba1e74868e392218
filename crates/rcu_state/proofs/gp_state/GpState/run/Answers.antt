use Rattle.std.proofs.lemmas.Result.{IfOk-weaker}
use Rattle.rcu_barrier.specs.Lists.{list_of}
use Rattle.rcu_seq.specs.Seq.{tag_of}
use Rattle.rcu_state.specs.GpState.{Grace}
use Rattle.rcu_state.proofs.Changes.{all_of, on_either, run_kept, same_kept}
use Rattle.rcu_state.proofs.Timely.{taken_waited, timely_get}
use Rattle.rcu_state.proofs.gp_state.GpState.run.Goals as goal

pub invariant_of-self : goal.invariant_of-self
invariant_of-self g c =
    let i = c.self.inside in
    let old : Grace g.row.T.Denot = record {
      seq = i.seq;
      needed = i.needed;
      processors = i.hotplug;
      lists = i.lists.all;
    } in
    on_either c.run.result _ _ c.run.ensures.state c.run.ensures.unchanged
    (λ _ h. run_kept old c.args.cpu c.args.max c.run.new.self.all c.self.invariant (all_of h))
    (λ _ h. same_kept old c.run.new.self.all c.self.invariant (all_of h))

pub returns-clause-waited : goal.returns-clause-waited
returns-clause-waited g c =
    let i = c.self.inside in
    let old : Grace g.row.T.Denot = record {
      seq = i.seq;
      needed = i.needed;
      processors = i.hotplug;
      lists = i.lists.all;
    } in
    let n = tag_of old.seq in
    let xs = list_of i.lists.all c.args.cpu in
    let timely = timely_get n i.lists.all.lists c.args.cpu c.self.invariant.timely in
    rw (← c.self.view_is)
    (IfOk-weaker c.run.result _ _ (λ calls h. taken_waited n c.args.max xs calls.items timely h)
    c.run.ensures.calls)
