use Rattle.rcu_state.specs.GpState.{Grace}
use Rattle.rcu_state.proofs.Changes.{on_either, queued_kept, same_kept}
use Rattle.rcu_state.proofs.gp_state.GpState.queue.Goals as goal

pub invariant_of-self : goal.invariant_of-self
invariant_of-self g c =
    let i = c.self.inside in
    let old : Grace g.row.T.Denot = record {
      seq = i.seq;
      needed = i.needed;
      processors = i.hotplug;
      lists = i.lists.all;
    } in
    on_either c.queue.result _ _ c.queue.ensures.state c.queue.ensures.unchanged
    (λ _ h. queued_kept old c.args.cpu c.tag-now.result c.args.value c.queue.new.self.all
    c.self.invariant c.tag-now.ensures.value h)
    (λ _ h. same_kept old c.queue.new.self.all c.self.invariant h)
