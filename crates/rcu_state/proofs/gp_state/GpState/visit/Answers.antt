use Rattle.rcu_state.specs.GpState.{Grace}
use Rattle.rcu_state.proofs.Changes.{on_either, same_kept, visited_kept}
use Rattle.rcu_state.proofs.gp_state.GpState.visit.Goals as goal

pub invariant_of-self : goal.invariant_of-self
invariant_of-self g c =
    let i = c.self.inside in
    let old : Grace g.row.T.Denot = record {
      seq = i.seq;
      needed = i.needed;
      processors = i.hotplug;
      lists = i.lists.all;
    } in
    on_either c.visit.result _ _ c.visit.ensures.state c.visit.ensures.unchanged
    (λ _ h. visited_kept old c.args.cpu c.visit.new.self.all c.self.invariant h)
    (λ _ h. same_kept old c.visit.new.self.all c.self.invariant h)
