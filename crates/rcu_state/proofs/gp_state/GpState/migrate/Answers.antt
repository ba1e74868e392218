use Rattle.rcu_state.specs.GpState.{Grace}
use Rattle.rcu_state.proofs.Changes.{migrated_kept, on_either, same_kept}
use Rattle.rcu_state.proofs.gp_state.GpState.migrate.Goals as goal

pub invariant_of-self : goal.invariant_of-self
invariant_of-self g c =
    let i = c.self.inside in
    let old : Grace g.row.T.Denot = record {
      seq = i.seq;
      needed = i.needed;
      processors = i.hotplug;
      lists = i.lists.all;
    } in
    on_either c.migrate.result _ _ c.migrate.ensures.state c.migrate.ensures.unchanged
    (λ _ h. migrated_kept old c.args.cpu c.migrate.new.self.all c.self.invariant h)
    (λ _ h. same_kept old c.migrate.new.self.all c.self.invariant h)
