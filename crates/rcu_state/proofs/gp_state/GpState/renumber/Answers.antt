use Rattle.std.proofs.Common.{sym}
use Rattle.rcu_seq.proofs.Accepted.{accepted_renumber}
use Rattle.rcu_state.specs.GpState.{Grace}
use Rattle.rcu_state.proofs.Changes.{all_of, renumbered_kept}
use Rattle.rcu_state.proofs.gp_state.GpState.renumber.Goals as goal

pub invariant_of-self-2 : goal.invariant_of-self-2
invariant_of-self-2 g c =
    let i = c.self.inside in
    let old : Grace g.row.T.Denot = record {
      seq = i.seq;
      needed = i.needed;
      processors = i.hotplug;
      lists = i.lists.all;
    } in
    let started = c.in_ok-epoch.ensures in
    renumbered_kept old c.renumber.new.self c.if-is_needed.self c.renumber-2.new.self.all
    c.self.invariant (accepted_renumber i.seq (sym started.fault)).0 started.state
    (all_of c.renumber-2.ensures)
