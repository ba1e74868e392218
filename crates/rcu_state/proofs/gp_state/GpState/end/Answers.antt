use Rattle.rcu_state.specs.GpState.{Grace}
use Rattle.rcu_state.proofs.Changes.{ended_kept, idle_kept, on_either}
use Rattle.rcu_state.proofs.gp_state.GpState.end.Goals as goal

pub invariant_of-self : goal.invariant_of-self
invariant_of-self g c =
    let i = c.self.inside in
    let old : Grace g.row.T.Denot = record {
      seq = i.seq;
      needed = i.needed;
      processors = i.hotplug;
      lists = i.lists.all;
    } in
    on_either c.end.result _ _ c.end.ensures.state c.end.ensures.unchanged
    (λ _ h. ended_kept old c.end.new.self c.self.invariant h)
    (λ _ h. idle_kept old c.end.new.self c.self.invariant h)
